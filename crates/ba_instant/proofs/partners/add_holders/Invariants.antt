use Rattle.ba_facts.specs.Laid.{IsTermOf}
use Rattle.ba_instant.proofs.PartnerLemmas.{IsOfFront}
use Rattle.ba_instant.specs.Partners.{Gains}
use Rattle.ba_instant.proofs.partners.add_holders.Given as goal

-- the facts of the unknowns so far were added
abbrev pub invariant-loop-unknown : goal.invariant-loop-unknown
invariant-loop-unknown l = Gains l.fn.facts.items l.facts.items (IsOfFront (IsTermOf l.branch.facts) l.unknowns l.unknown-index)
