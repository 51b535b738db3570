use Rattle.std.proofs.Common.{◌∙◌, ◌+◌, ap, refl, subst, sym}
use Rattle.std.specs.Result.{IfErr, OnOk}
use Rattle.ba_model.specs.Readings.{OfFault}
use Rattle.ba_audit.specs.Audits.{TellsFault}
use Rattle.ba_audit.specs.Keeping.{IsEnded, after_last}
use Rattle.ba_audit.proofs.EndLemmas.{last_fault_at, last_missing, last_ok_at}
use Rattle.ba_audit.proofs.auditing.take_last.Goals as goal

pub returns-in-Some-clause-ok : goal.returns-in-Some-clause-ok
returns-in-Some-clause-ok c = λ it of end reached.
    let left = c.next.new.self in
    let is = c.after_last.ensures ∙ ap (λ r. after_last (c.args.n + 1) r left) c.located-last.ensures in
    subst (λ r. OnOk r (IsEnded it c.args.told.now)) (sym is)
    (last_ok_at it c.args.against.now c.args.ended of c.args.n end c.args.told.now c.in-Some.bytes.now c.args.lines.now left c.in-Some.ensures.steps reached c.test_last-tested.result left refl c.test_last-tested.ensures.ok)

pub returns-in-Some-clause-fault : goal.returns-in-Some-clause-fault
returns-in-Some-clause-fault c = λ it of end reached.
    let left = c.next.new.self in
    let is = c.after_last.ensures ∙ ap (λ r. after_last (c.args.n + 1) r left) c.located-last.ensures in
    subst (λ r. IfErr r (λ failure. OfFault failure (TellsFault it))) (sym is)
    (last_fault_at it c.args.against.now c.args.ended of c.args.n end c.args.told.now c.in-Some.bytes.now c.args.lines.now left c.in-Some.ensures.steps reached c.test_last-tested.result left refl
    c.test_last-tested.ensures.ok c.test_last-tested.ensures.fault)

pub returns-in-None-clause-fault : goal.returns-in-None-clause-fault
returns-in-None-clause-fault c = λ it of end reached. last_missing it c.args.n end c.args.told.now c.args.lines.now c.in-None.ensures.steps.0 reached
