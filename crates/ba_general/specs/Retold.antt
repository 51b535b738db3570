-- A proof's steps, told of its pattern.
use Rattle.std.specs.Prelude.{◌≡◌, ℕ, ◌↔◌, List, [], ◌∷◌, Contains, take, Option, Some, None, slice_get}
use Rattle.std.specs.List.{AllZip}
use Rattle.std.specs.List.Sorted.{IsStrictlySortedBy}
use Rattle.std.specs.Ordering.{nat_cmp}
use Rattle.ba_model.specs.declared.value.Value.{Value}
use Rattle.ba_facts.specs.declared.term.Term.{Term}
use Rattle.ba_facts.specs.declared.term.Term.TheVariants as terms
use Rattle.ba_facts.specs.declared.term.TermAtom.{TermAtom}
use Rattle.ba_kernel.specs.declared.step.Step.{Step}
use Rattle.ba_kernel.specs.declared.step.Step.TheVariants as steps

-- a step names the entry
abbrev pub Names : List Step → ℕ → Type 0
Names taken entry = (branch : ℕ) × Contains taken (steps.Entry branch entry)

abbrev pub named : Step → List ℕ
named (steps.Entry branch entry) = entry ∷ []
named step = []

-- the numbers of the entries that the steps name, rising
pub record AreNamed (taken : List Step) (numbers : List ℕ) : Type 0 where
  pub rising : IsStrictlySortedBy nat_cmp numbers
  pub exact : (entry : ℕ) → Contains numbers entry ↔ Names taken entry

-- the step's entry is among the numbers
abbrev pub NamesOneOf : List ℕ → Step → Type 0
NamesOneOf numbers (steps.Entry branch entry) = Contains numbers entry
NamesOneOf numbers step = Unit {0}

-- an entry has its place among the numbers, and another step stays
abbrev pub IsRenumbered : List ℕ → Step → Step → Type 0
IsRenumbered numbers (steps.Entry branch entry) new = (place : ℕ) × (slice_get numbers place ≡ Some entry) × (new ≡ steps.Entry branch place)
IsRenumbered numbers step new = new ≡ step

abbrev pub AreRenumbered : List ℕ → List Step → List Step → Type 0
AreRenumbered numbers taken new = AllZip (IsRenumbered numbers) taken new

-- the place of the first value that is equal, or that none is
abbrev pub IsFirstWith : List Value → Value → Option ℕ → Type 0
IsFirstWith values v None = ¬ (Contains values v)
IsFirstWith values v (Some n) = (slice_get values n ≡ Some v) × (¬ (Contains (take n values) v))

-- the first variable with an equal value stands for a literal, if there is one
abbrev pub stands_for : Value → Option ℕ → Term
stands_for v None = terms.Val v
stands_for v (Some n) = terms.Var n

abbrev pub IsTermWith : List Value → Term → Term → Type 0
IsTermWith values (terms.Unknown n) new = new ≡ terms.Unknown n
IsTermWith values (terms.Val v) new = (first : Option ℕ) × IsFirstWith values v first × (new ≡ stands_for v first)
IsTermWith values (terms.Param n) new = new ≡ terms.Param n
IsTermWith values (terms.Var n) new = new ≡ terms.Var n

pub record IsAtomWith (values : List Value) (old new : TermAtom) : Type 0 where
  pub op : new.op ≡ old.op
  pub left : IsTermWith values old.left new.left
  pub right : IsTermWith values old.right new.right

abbrev pub IsStepWith : List Value → Step → Step → Type 0
IsStepWith values (steps.Split branch atom) new = (it : TermAtom) × IsAtomWith values atom it × (new ≡ steps.Split branch it)
IsStepWith values step new = new ≡ step

-- the steps where in what is split variables stand for equal literals
abbrev pub AreWithVariables : List Value → List Step → List Step → Type 0
AreWithVariables values taken new = AllZip (IsStepWith values) taken new

-- the step splits by an atom
abbrev pub IsSplit : Step → Type 0
IsSplit (steps.Split branch atom) = Unit {0}
IsSplit step = ⊥
