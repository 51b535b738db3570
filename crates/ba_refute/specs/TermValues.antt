-- Terms of a branch, and their values in its image.
use Rattle.std.specs.Prelude.{◌≡◌, ℕ, ◌<◌, List, All, Contains, Option, Some, length, slice_get}
use Rattle.ba_facts.specs.Fits.{value_of_term}
use Rattle.ba_facts.specs.Known.{Known, NotNullTerm, OneClass}
use Rattle.ba_facts.specs.Shown.{Absurd}
use Rattle.ba_facts.specs.declared.term.Lesson.{Lesson}
use Rattle.ba_facts.specs.declared.term.Lesson.TheVariants.{Same, Holds}
use Rattle.ba_facts.specs.declared.term.Term.{Term}
use Rattle.ba_facts.specs.declared.term.Term.TheVariants.{Unknown, Val, Param, Var}
use Rattle.ba_model.specs.declared.policy.Context.{Context}
use Rattle.ba_model.specs.declared.query.Op.TheVariants.{Eq}
use Rattle.ba_model.specs.declared.value.Value.{Value}
use Rattle.ba_refute.specs.Images.{given}

-- it was learned that two terms are the same, or equal
abbrev pub IsEquation : Lesson → Type 0
IsEquation (Same a b) = Unit {0}
IsEquation (Holds atom) = atom.op ≡ Eq

-- only equations were learned, which can be true, and no unknown may be NULL
pub record KnowsEquationsAlone (k : Known) : Type 0 where
  pub learned : All IsEquation k.learned
  pub sound : ¬ (Absurd k)
  pub filled : (n : ℕ) → n < length k.unknowns → NotNullTerm k (Unknown n)

-- each parameter is of one class with its value, which is one of these literals, and so is each
-- literal of an unknown's class
pub record AreLiterals (k : Known) (c : Context) (all : List Value) : Type 0 where
  pub params : (n : ℕ) (v : Value) → slice_get c.values n ≡ Some v → OneClass k (Param n) (Val v)
  pub values : All (Contains all) c.values
  pub classes : (n : ℕ) (v : Value) → OneClass k (Unknown n) (Val v) → Contains all v

-- the term is an unknown that is there, one of these literals, or a parameter that has a value
abbrev pub IsIn : Known → Context → List Value → Term → Type 0
IsIn k c all (Unknown n) = n < length k.unknowns
IsIn k c all (Val v) = Contains all v
IsIn k c all (Param n) = n < length c.values
IsIn k c all (Var n) = ⊥

-- the term's value, if it has one
abbrev pub value_at : Context → List Value → Term → Option Value
value_at c values t = value_of_term (given c) values t

-- two terms have one value exactly where they are of one class
abbrev pub ValuesTellClasses : Known → Context → List Value → List Value → Type 0
ValuesTellClasses k c all values =
    (t u : Term) (v w : Value) → IsIn k c all t → IsIn k c all u → value_at c values t ≡ Some v →
    value_at c values u ≡ Some w → (v ≡ w → OneClass k t u) × (OneClass k t u → v ≡ w)
