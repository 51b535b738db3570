use Rattle.std.proofs.Common.{◌≡◌}
use Rattle.ba_kernel.specs.declared.step.Step.TheVariants as steps
use Rattle.ba_instant.specs.Offers.{Improves, Upto}
use Rattle.ba_instant.proofs.scan.Scan.offer_keys_between.Given as goal

-- the keys so far were offered
abbrev pub invariant-loop-key : goal.invariant-loop-key
invariant-loop-key l = Improves l.self.search.now l.self.pick (Upto (λ key step. step ≡ steps.Key l.self.number key l.left l.right) l.key) l.fn.best l.best
