-- The unknowns of a term's class.
use Rattle.std.specs.Prelude.{◌≡◌, ℕ, ◌<◌, ◌↔◌, List, Contains, Some, slice_get}
use Rattle.ba_classes.specs.Merged.{Connected}
use Rattle.ba_facts.specs.Known.{Known, OneClass}
use Rattle.ba_facts.specs.Shown.{TheSame}
use Rattle.ba_facts.specs.declared.term.Term.{Term}
use Rattle.ba_facts.specs.declared.term.Term.TheVariants.{Unknown}

-- they are the unknowns that are of one class with the term
abbrev pub AreMembers : Known → Term → List ℕ → Type 0
AreMembers k a members = (u : ℕ) → Contains members u ↔ OneClass k a (Unknown u)

-- what is the same as the term is of its class
abbrev pub IsOnlyClass : Known → Term → Type 0
IsOnlyClass k a = (b : Term) → TheSame k a b → OneClass k a b

-- the unknown has a number below the end that the merges connect with x
pub record IsMemberBelow (terms : List Term) (merges : List (ℕ × ℕ)) (x end u : ℕ) : Type 0 where
  pub number : ℕ
  pub below : number < end
  pub connected : Connected merges x number
  pub there : slice_get terms number ≡ Some (Unknown u)

-- they are the unknowns with such numbers
abbrev pub AreMembersBelow : List Term → List (ℕ × ℕ) → ℕ → ℕ → List ℕ → Type 0
AreMembersBelow terms merges x end members = (u : ℕ) → Contains members u
    ↔ IsMemberBelow terms merges x end u
