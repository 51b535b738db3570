use Rattle.std.proofs.Common.{◌∙◌, ap}
use Rattle.ba_model.specs.declared.policy.Policy.{Policy}
use Rattle.ba_live.proofs.FoundLemmas.{finds_searched}
use Rattle.ba_live.proofs.contradict.finds_contradiction.Goals as goal

pub returns : goal.returns
returns g c =
    finds_searched c.args.policy.now (g.S.Settle.orders c.args.settle.now) c.args.budget c.min-steps.result c.args.asker.now.context c.args.asker.now.trace c.args.entries.now c.in_ok-told.told
    c.deref-2.result.now c.clashes.result c.are_few.result c.is_some.result c.in_ok-found.found (c.deref-2.ensures ∙ ap (λ (p : Policy). p.schema) c.deref.ensures) c.clashes.ensures c.if-clashes.false
    c.min-steps.ensures c.in_ok-told.ensures c.is_some.ensures c.in_ok-found.ensures c.are_few.ensures c.if-not-are_few.false
