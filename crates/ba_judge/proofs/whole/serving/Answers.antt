use Rattle.std.proofs.Common.{subst}
use Rattle.ba_kernel.specs.Problems.{StrongAll}
use Rattle.ba_kernel.specs.SearchStates.{Proof}
use Rattle.ba_judge.proofs.JudgeLemmas.{first_here, found_first, found_none, none_at_all, none_here}
use Rattle.ba_judge.specs.Judging.{seen}
use Rattle.ba_judge.proofs.whole.serving.Goals as goal

pub returns-in-Some : goal.returns-in-Some
returns-in-Some c =
    let asked = seen c.args.asked.now in
    let it = c.template-item.result in
    first_here asked c.args.found.now c.loop-template.template-index it c.loop-template-test.true c.template-item.is c.loop-template.invariant c.in_ok-template.template c.in_ok-template.ensures c.in-Some.found
    (found_first asked c.deref-in-loop-template.result.now it c.deref-in-loop-template-2.result.now c.deref-in-loop-template.ensures c.deref-in-loop-template-2.ensures c.in_ok-matched.matched c.in_ok-matched.ensures c.in-Some.found c.in-Some.is)
    (subst (λ (t : Proof). StrongAll t.problem) c.deref.ensures (subst StrongAll c.problem-sound.ensures.is c.problem-sound.ensures.strong))

pub loop-template-preserved : goal.loop-template-preserved
loop-template-preserved c =
    let asked = seen c.args.asked.now in
    let it = c.template-item.result in
    none_here asked c.args.found.now c.loop-template.template-index it c.loop-template-test.true c.template-item.is c.loop-template.invariant
    (found_none asked c.deref-in-loop-template.result.now it c.deref-in-loop-template-2.result.now c.deref-in-loop-template.ensures c.deref-in-loop-template-2.ensures c.in_ok-matched.matched c.in_ok-matched.ensures c.in_default.is)

pub returns : goal.returns
returns c = none_at_all (seen c.args.asked.now) c.args.found.now c.loop-template.template-index c.loop-template-test.false c.loop-template.invariant
