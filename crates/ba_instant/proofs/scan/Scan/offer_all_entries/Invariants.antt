use Rattle.std.proofs.Common.{◌≡◌}
use Rattle.ba_kernel.specs.declared.step.Step.TheVariants as steps
use Rattle.ba_instant.specs.Offers.{Improves, Upto}
use Rattle.ba_instant.proofs.scan.Scan.offer_all_entries.Given as goal

-- the entries so far were offered
abbrev pub invariant-loop-entry : goal.invariant-loop-entry
invariant-loop-entry l = Improves l.self.search.now l.self.pick (Upto (λ entry step. step ≡ steps.Entry l.self.number entry) l.entry) l.fn.best l.best
