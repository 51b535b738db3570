-- Facts whose terms are all the unknowns, one after another.
use Rattle.std.specs.Prelude.{◌≡◌, ◌↔◌, ℕ, ◌+◌, ◌≤◌, List, [], ◌∷◌, Option, Some, length, map, slice_get}
use Rattle.std.specs.List.{range_with_len}
use Rattle.ba_facts.specs.declared.branch.Branch.{Branch}
use Rattle.ba_facts.specs.declared.term.Fact.{Fact}
use Rattle.ba_facts.specs.declared.term.Term.{Term}
use Rattle.ba_facts.specs.declared.term.Term.TheVariants.{Unknown}

-- so many unknowns from a number on
abbrev pub unknowns_from : ℕ → ℕ → List Term
unknowns_from start count = map Unknown (range_with_len start count)

-- the facts' terms are the unknowns from the start up to the end
abbrev pub AreLaid : ℕ → List Fact → ℕ → Type 0
AreLaid start [] end = start ≡ end
AreLaid start (fact ∷ facts) end = (fact.terms ≡ unknowns_from start (length fact.terms))
    × AreLaid (start + length fact.terms) facts end

-- the terms of the branch's facts are its unknowns, fact by fact
abbrev pub IsLaid : Branch → Type 0
IsLaid b = AreLaid 0 b.facts (length b.known.unknowns)

-- the unknown is a term of the fact of the number
pub record IsTermOf (facts : List Fact) (u number : ℕ) : Type 0 where
  pub fact : Fact
  pub there : slice_get facts number ≡ Some fact
  pub column : ℕ
  pub has : slice_get fact.terms column ≡ Some (Unknown u)

-- the number of the fact that has the unknown, if one has it
abbrev pub IsHolder : List Fact → ℕ → Option ℕ → Type 0
IsHolder facts u holder = (number : ℕ) → (holder ≡ Some number) ↔ IsTermOf facts u number

-- the number, if its fact has the unknown
abbrev pub IsHolderAt : List Fact → ℕ → ℕ → Option ℕ → Type 0
IsHolderAt facts u number holder =
    (n : ℕ) → (holder ≡ Some n) ↔ ((n ≡ number) × IsTermOf facts u number)

-- the fact's first term is an unknown of this number or a lesser one
pub record BeginsBy (fact : Fact) (u : ℕ) : Type 0 where
  pub first : ℕ
  pub first_is : slice_get fact.terms 0 ≡ Some (Unknown first)
  pub low : first ≤ u
