use Rattle.std.proofs.Common.{◌≡◌, ◌≤◌, arith, length}
use Rattle.std.proofs.lemmas.Grind.{common_steps}
use Rattle.ba_kernel.specs.declared.step.Step.TheVariants as steps
use Rattle.ba_instant.specs.Offers.{keys_at}
use Rattle.ba_instant.proofs.ChaseLemmas.{key_past}
use Rattle.ba_instant.proofs.OfferLemmas.{improves_end, improves_next}
use Rattle.ba_instant.proofs.scan.Scan.offer_keys_between.Goals as goal

pub loop-key-preserved : goal.loop-key-preserved
loop-key-preserved c =
    improves_next c.args.self.now.search.now c.args.self.now.pick (λ key step. step ≡ steps.Key c.args.self.now.number key c.args.left c.args.right) c.loop-key.key c.args.best.now c.loop-key.best c.offer.new.best c.loop-key.invariant
    c.in_ok-offer.ensures

pub returns : goal.returns
returns c =
    let past : length (keys_at c.args.self.now.search.now.problem.policy.schema c.args.self.now.branch.now c.args.left) ≤ c.loop-key.key = grind (arith, common_steps) in
    improves_end c.args.self.now.search.now c.args.self.now.pick (λ key step. step ≡ steps.Key c.args.self.now.number key c.args.left c.args.right) c.loop-key.key c.args.best.now c.loop-key.best c.loop-key.invariant
    (λ key step more of new. key_past c.args.self.now.search.now c.args.self.now.number c.args.self.now.branch.now c.requires key c.args.left c.args.right step (omega (arith, past, more)) of new)
