use Rattle.std.proofs.Common.{Err, take}
use Rattle.std.proofs.lemmas.Result.{err_from_is_err_and}
use Rattle.ba_input.specs.declared.task.Told.TheVariants.{Lines}
use Rattle.ba_top.specs.Text.{ReadsKey}
use Rattle.ba_top.specs.Told.{told_end}
use Rattle.ba_top.proofs.HistoryLemmas.{all_at}
use Rattle.ba_top.proofs.PrintLemmas.{line_at, said_at, told_err, told_then}
use Rattle.ba_top.proofs.print.print_lines.Goals as goal

pub print_entry-requires : goal.print_entry-requires
print_entry-requires g c = all_at (ReadsKey c.args.input.now.policy) c.args.journal.now.entries c.loop-place.place c.get-entry.result.now c.requires.keys c.get-entry.ensures

pub returns-in_err-print_entry : goal.returns-in_err-print_entry
returns-in_err-print_entry g c =
    let p = err_from_is_err_and c.from_residual.result c.from_residual.ensures.1 in
    let s = g.S.Sink.seen c.loop-place.sink in
    let t = g.S.Sink.seen c.print_entry.new.sink in
    let e = c.in_err-print_entry.field-0.0 in
    let entries = c.args.journal.now.entries in
    let i = c.loop-place.place in
    let entry = c.get-entry.result.now in
    rw (p.1, p.2) (c.loop-place.invariant t (Err e)
    (told_err (Unit {0}) (Unit {0}) Lines c.args.input.now entries i entry (told_end Lines c.args.journal.now) s t e c.get-entry.ensures
    (c.in_err-print_entry.ensures (take i entries) (said_at c.args.input.now.script.entries c.get-said.result.now entries i entry c.get-entry.ensures c.get-said.ensures) (line_at entries i entry c.get-entry.ensures))))

pub loop-place-preserved : goal.loop-place-preserved
loop-place-preserved g c = λ t r h.
    let s = g.S.Sink.seen c.loop-place.sink in
    let m = g.S.Sink.seen c.print_entry.new.sink in
    let entries = c.args.journal.now.entries in
    let i = c.loop-place.place in
    let entry = c.get-entry.result.now in
    c.loop-place.invariant t r
    (told_then Lines c.args.input.now entries i entry (told_end Lines c.args.journal.now) s m t r c.get-entry.ensures
    (c.in_ok-print_entry.ensures (take i entries) (said_at c.args.input.now.script.entries c.get-said.result.now entries i entry c.get-entry.ensures c.get-said.ensures) (line_at entries i entry c.get-entry.ensures)) h)
