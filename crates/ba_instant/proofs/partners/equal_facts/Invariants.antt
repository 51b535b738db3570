use Rattle.ba_instant.proofs.PartnerLemmas.{IsOfFront}
use Rattle.ba_instant.specs.Partners.{Gains, IsEqualOn}
use Rattle.std.proofs.Common.{[]}
use Rattle.ba_instant.proofs.partners.equal_facts.Given as goal

-- the facts that are equal on the keys so far were added
abbrev pub invariant-loop-columns : goal.invariant-loop-columns
invariant-loop-columns l = Gains [] l.facts.items (IsOfFront (IsEqualOn l.branch l.fact) l.keys l.columns-index)
