use Rattle.std.proofs.Common.{◌++◌, ◌+◌, Err, arith, drop, sym, subst, take}
use Rattle.std.proofs.lemmas.Result.{IfOk-weaker, err_from_is_err_and}
use Rattle.ba_input.specs.declared.task.Told.TheVariants.{Proofs}
use Rattle.ba_plan.proofs.SendingLines.{lines_no_memory}
use Rattle.ba_plan.specs.Sent.{SentLines}
use Rattle.ba_tables.proofs.IndexLemmas.{take_one}
use Rattle.ba_top.specs.Evidence.{AreAfter}
use Rattle.ba_top.specs.Text.{ReadsKey}
use Rattle.ba_top.specs.Told.{told_after, told_end}
use Rattle.ba_top.proofs.HistoryLemmas.{all_at}
use Rattle.ba_top.proofs.PrintLemmas.{line_at, said_at, told_err, told_then}
use Rattle.ba_top.proofs.ProofsLemmas.{close_next, written_last, written_next}
use Rattle.ba_top.proofs.print.print_proofs.Goals as goal

pub print_evident-requires-clause-key : goal.print_evident-requires-clause-key
print_evident-requires-clause-key g c = all_at (ReadsKey c.args.input.now.policy) c.args.journal.now.entries c.loop-place.place c.get-entry.result.now c.requires.keys c.get-entry.ensures

pub loop-place-init : goal.loop-place-init
loop-place-init g c = (c.new-requests.ensures c.args.input.now, (λ t r h. h), (λ h. h), (λ h. h))

pub returns-in_err-print_evident-clause-sent : goal.returns-in_err-print_evident-clause-sent
returns-in_err-print_evident-clause-sent g c =
    let p = err_from_is_err_and c.from_residual.result c.from_residual.ensures.1 in
    let s = g.S.Sink.seen c.loop-place.sink in
    let t = g.S.Sink.seen c.print_evident.new.sink in
    let e = c.in_err-print_evident.field-0.0 in
    let entries = c.args.journal.now.entries in
    let i = c.loop-place.place in
    let entry = c.get-entry.result.now in
    rw (p.1, p.2) (c.loop-place.invariant.1 t (Err e)
    (told_err (Unit {0}) (Unit {0}) Proofs c.args.input.now entries i entry (told_end Proofs c.args.journal.now) s t e c.get-entry.ensures
    (c.in_err-print_evident.ensures.sent (take i entries) (said_at c.args.input.now.script.entries c.get-said.result.now entries i entry c.get-entry.ensures c.get-said.ensures) (line_at entries i entry c.get-entry.ensures) c.loop-place.invariant.0)))

pub returns-in_err-follow-clause-sent : goal.returns-in_err-follow-clause-sent
returns-in_err-follow-clause-sent g c =
    let p = err_from_is_err_and c.from_residual-in_err-follow.result c.from_residual-in_err-follow.ensures.1 in
    let s = g.S.Sink.seen c.loop-place.sink in
    let m = g.S.Sink.seen c.print_evident.new.sink in
    let e = c.in_err-follow.field-0.0 in
    let entries = c.args.journal.now.entries in
    let i = c.loop-place.place in
    let entry = c.get-entry.result.now in
    let rest = told_after Proofs c.args.input.now (take (i + 1) entries) (drop (i + 1) entries) ++ told_end Proofs c.args.journal.now in
    rw (p.1, p.2) (c.loop-place.invariant.1 m (Err e)
    (told_then {X = Unit {0}} Proofs c.args.input.now entries i entry (told_end Proofs c.args.journal.now) s m m (Err e) c.get-entry.ensures
    (c.in_ok-print_evident.ensures.sent (take i entries) (said_at c.args.input.now.script.entries c.get-said.result.now entries i entry c.get-entry.ensures c.get-said.ensures) (line_at entries i entry c.get-entry.ensures) c.loop-place.invariant.0)
    (subst (λ z. SentLines {X = Unit {0}} rest m m (Err z)) (sym c.in_err-follow.ensures.err) (lines_no_memory (Unit {0}) m rest))))

pub loop-place-preserved : goal.loop-place-preserved
loop-place-preserved g c =
    let s = g.S.Sink.seen c.loop-place.sink in
    let m = g.S.Sink.seen c.print_evident.new.sink in
    let entries = c.args.journal.now.entries in
    let i = c.loop-place.place in
    let entry = c.get-entry.result.now in
    let said = said_at c.args.input.now.script.entries c.get-said.result.now entries i entry c.get-entry.ensures c.get-said.ensures in (
      subst (λ es. AreAfter c.args.input.now es c.follow.new.requests) (sym (take_one entries i entry c.get-entry.ensures)) (c.in_ok-follow.ensures.ok c.args.input.now (take i entries) said c.loop-place.invariant.0),
      (λ t r h. c.loop-place.invariant.1 t r
          (told_then Proofs c.args.input.now entries i entry (told_end Proofs c.args.journal.now) s m t r c.get-entry.ensures
          (c.in_ok-print_evident.ensures.sent (take i entries) said (line_at entries i entry c.get-entry.ensures) c.loop-place.invariant.0) h)),
      (λ h. c.loop-place.invariant.2 (close_next c.args.input.now entries i entry c.get-entry.ensures (c.in_ok-print_evident.ensures.closes (take i entries) c.loop-place.invariant.0) h)),
      (λ h. c.loop-place.invariant.3 (written_next c.args.input.now entries i entry c.get-entry.ensures
          (c.in_ok-print_evident.ensures.written (take i entries) said (line_at entries i entry c.get-entry.ensures) c.loop-place.invariant.0) h)),
    )

pub returns-clause-written : goal.returns-clause-written
returns-clause-written g c =
    IfOk-weaker c.print_summary.result _ _ (λ x h. record { entries = c.loop-place.invariant.3 (written_last c.args.input.now c.args.journal.now.entries c.loop-place.place (omega arith)); total = h })
    c.print_summary.ensures.written
