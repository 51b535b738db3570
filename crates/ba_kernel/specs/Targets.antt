-- Where the target of a link may be.
use Rattle.std.specs.Prelude.{◌≡◌, ℕ, List, Contains, Option, Some, None, slice_get}
use Rattle.ba_model.specs.declared.schema.Link.{Link}
use Rattle.ba_facts.specs.Known.{Known}
use Rattle.ba_facts.specs.Laid.{IsTermOf}
use Rattle.ba_facts.specs.Shown.{TheSame}
use Rattle.ba_facts.specs.declared.branch.Branch.{Branch}
use Rattle.ba_facts.specs.declared.term.Fact.{Fact}
use Rattle.ba_facts.specs.declared.term.Term.{Term}
use Rattle.ba_facts.specs.declared.term.Term.TheVariants.{Unknown}
use Rattle.ba_kernel.specs.NewParts.{IsTargetOf}

-- the fact of the number is the target of the link of f
pub record IsTargetAt (b : Branch) (f : Fact) (it : Link) (number : ℕ) : Type 0 where
  pub other : Fact
  pub there : slice_get b.facts number ≡ Some other
  pub target : IsTargetOf b f it other

-- the fact that has the unknown is the target
abbrev pub HasTargetWith : Branch → Fact → Link → ℕ → Type 0
HasTargetWith b f it u = (number : ℕ) × IsTermOf b.facts u number × IsTargetAt b f it number

-- each target of the link has one of the unknowns
abbrev pub HaveTargets : Branch → Fact → Link → List ℕ → Type 0
HaveTargets b f it unknowns =
    (number : ℕ) → IsTargetAt b f it number →
    (u : ℕ) × Contains unknowns u × IsTermOf b.facts u number

abbrev pub HaveTargetsIfAny : Branch → Fact → Link → Option (List ℕ) → Type 0
HaveTargetsIfAny b f it None = Unit {0}
HaveTargetsIfAny b f it (Some unknowns) = HaveTargets b f it unknowns

-- each unknown that the term is the same as is one of these
abbrev pub AreUnknownsOf : Known → Term → List ℕ → Type 0
AreUnknownsOf k t unknowns = (u : ℕ) → TheSame k t (Unknown u) → Contains unknowns u

abbrev pub AreUnknownsOfIfAny : Known → Term → Option (List ℕ) → Type 0
AreUnknownsOfIfAny k t None = Unit {0}
AreUnknownsOfIfAny k t (Some unknowns) = AreUnknownsOf k t unknowns
