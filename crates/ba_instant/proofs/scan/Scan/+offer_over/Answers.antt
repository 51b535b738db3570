use Rattle.std.proofs.Common.{◌∙◌, arith, get_or, length, subst, sym}
use Rattle.std.proofs.lemmas.Grind.{common_steps}
use Rattle.std.proofs.lemmas.Result.{on_ok_weaker}
use Rattle.ba_facts.proofs.WalkLemmas.{one_chosen}
use Rattle.ba_instant.proofs.SplitLemmas.{at_all, number_more}
use Rattle.ba_instant.proofs.SpreadLemmas.{Next, over_all, over_on, over_taken}
use Rattle.ba_instant.specs.Spreads.{AreChoices}
use Rattle.ba_instant.proofs.scan.Scan.+offer_over.Goals as goal

pub loop-choice-preserved : goal.loop-choice-preserved
loop-choice-preserved t c = record {
  done = grind (arith, common_steps);
  best = number_more c.args.self.now.search.now c.args.self.now.pick c.deref-choice-items.result.now (λ choice step. Next c.args.self.now.search.now c.args.self.now.pick c.args.self.now.branch.now c.args.self.now.number c.args.cond.now c.in-Some.rest.now c.args.done.now.items choice step)
      c.loop-choice.choice-index c.args.best.now c.loop-choice.best c.offer_over.new.best c.loop-choice-test.true c.loop-choice.invariant.best
      (over_taken c.args.self.now.search.now c.args.self.now.pick c.args.self.now.branch.now c.args.self.now.number c.args.cond.now c.in-Some.rest.now c.args.done.now.items (get_or c.deref-choice-items.result.now c.loop-choice.choice-index 0) c.push.new.self.items c.loop-choice.best c.offer_over.new.best
      (one_chosen _ _ _ _ c.in_ok-push.ensures.items c.loop-choice.invariant.done) c.in_ok-offer_over.ensures.best);
}

pub returns-clause-best : goal.returns-clause-best
returns-clause-best t c =
    over_all c.args.self.now.search.now c.args.self.now.pick c.args.self.now.branch.now c.args.self.now.number c.args.cond.now c.in-Some.rest.now c.args.done.now.items c.in-Some.fact.now c.deref-choice-items.result.now
    (subst (AreChoices c.args.self.now.branch.now c.args.cond.now (length c.args.done.now.items) c.in-Some.fact.now) (sym c.deref-choice-items.ensures.value)
    (subst (λ place. AreChoices c.args.self.now.branch.now c.args.cond.now place c.in-Some.fact.now c.in_ok-choices.choices.items) (c.len.ensures ∙ c.args.done.now.ok.0) c.in_ok-choices.ensures))
    c.args.left.now c.args.best.now c.loop-choice.best c.in-Some.ensures.cases.0
    (at_all c.args.self.now.search.now c.args.self.now.pick c.deref-choice-items.result.now (λ choice step. Next c.args.self.now.search.now c.args.self.now.pick c.args.self.now.branch.now c.args.self.now.number c.args.cond.now c.in-Some.rest.now c.args.done.now.items choice step) c.loop-choice.choice-index c.args.best.now c.loop-choice.best c.loop-choice-test.false c.loop-choice.invariant.best)

pub returns-in_default-clause-best : goal.returns-in_default-clause-best
returns-in_default-clause-best t c =
    on_ok_weaker c.offer_atom.result
    (over_on c.args.self.now.search.now c.args.self.now.pick c.args.self.now.branch.now c.args.self.now.number c.args.cond.now c.args.left.now c.args.done.now.items c.deref.result.now c.args.best.now c.offer_atom.new.best
    c.in_default.ensures.cases c.deref.ensures.value)
    c.offer_atom.ensures
