use Rattle.std.proofs.Common.{◌≡◌}
use Rattle.ba_kernel.specs.declared.step.Step.TheVariants as steps
use Rattle.ba_instant.specs.Offers.{Improves, Upto}
use Rattle.ba_instant.proofs.scan.Scan.offer_links_of.Given as goal

-- the links so far were offered
abbrev pub invariant-loop-link : goal.invariant-loop-link
invariant-loop-link l = Improves l.self.search.now l.self.pick (Upto (λ link step. step ≡ steps.Link l.self.number link l.fact) l.link) l.fn.best l.best
