-- Which facts may pass the test of a key with a fact.
use Rattle.std.specs.Prelude.{◌≡◌, ℕ, List, All, Any, Contains, Some, slice_get}
use Rattle.ba_model.specs.declared.schema.Schema.{Schema}
use Rattle.ba_facts.specs.Laid.{IsTermOf}
use Rattle.ba_facts.specs.declared.branch.Branch.{Branch}
use Rattle.ba_facts.specs.declared.term.Fact.{Fact}
use Rattle.ba_kernel.specs.Steps.{AreEqualAt}
use Rattle.ba_instant.specs.Scans.{ShareKey}

-- each fact that passes the test of some key with the one is one of these
abbrev pub ArePartners : Schema → Branch → ℕ → List ℕ → Type 0
ArePartners s b one partners = (other : ℕ) → ShareKey s b one other → Contains partners other

-- the new numbers are the old ones, each of the set, and maybe others
pub record Gains (old new : List ℕ) (P : ℕ → Type 0) : Type 0 where
  pub keeps : (n : ℕ) → Contains old n → Contains new n
  pub gains : (n : ℕ) → P n → Contains new n

-- the fact of the number is shown equal to this one in the column
pub record IsEqualIn (b : Branch) (f : Fact) (column number : ℕ) : Type 0 where
  pub g : Fact
  pub there : slice_get b.facts number ≡ Some g
  pub equal : AreEqualAt b f.terms g.terms column

-- it is shown equal to this one in each of the columns
pub record IsEqualOn (b : Branch) (f : Fact) (columns : List ℕ) (number : ℕ) : Type 0 where
  pub g : Fact
  pub there : slice_get b.facts number ≡ Some g
  pub equal : All (AreEqualAt b f.terms g.terms) columns

-- or so on one of the keys
abbrev pub IsEqualOnAny : Branch → Fact → List (List ℕ) → ℕ → Type 0
IsEqualOnAny b f keys number = Any (λ columns. IsEqualOn b f columns number) keys

-- one of the unknowns is a term of the fact of the number
abbrev pub HasAny : Branch → List ℕ → ℕ → Type 0
HasAny b unknowns number = Any (λ unknown. IsTermOf b.facts unknown number) unknowns
