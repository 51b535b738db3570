-- What the tests of a branch mean for the databases that it fits.
use Rattle.std.specs.Prelude.{◌≡◌, ◌≢◌, ◌⊎◌, ◌↔◌, List, [], ◌∷◌, ◌++◌, Option, Some, slice_get, option_map}
use Rattle.ba_model.specs.Conform.{IsOfKind}
use Rattle.ba_model.specs.Fit.{kind_of_value}
use Rattle.ba_model.specs.declared.policy.Context.{Context}
use Rattle.ba_model.specs.declared.policy.Policy.{Policy}
use Rattle.ba_model.specs.declared.query.Op.{Op}
use Rattle.ba_model.specs.declared.query.Op.TheVariants.{Eq, Ne, Lt, Le, IsNull, NotNull}
use Rattle.ba_model.specs.declared.query.Query.{Query}
use Rattle.ba_model.specs.declared.schema.Kind.{Kind}
use Rattle.ba_model.specs.declared.schema.Kind.TheVariants.{Int as IntKind}
use Rattle.ba_model.specs.declared.schema.Schema.{Schema}
use Rattle.ba_model.specs.declared.value.RowSet.{RowSet}
use Rattle.ba_model.specs.declared.value.Value.{Value}
use Rattle.ba_model.specs.declared.value.Value.TheVariants.{Null}
use Rattle.ba_comply.specs.Comply.{Strong}
use Rattle.ba_comply.specs.declared.trace.TraceEntry.{TraceEntry}
use Rattle.ba_facts.specs.Fits.{Fits, FitsAt, Instance, LessonHolds, TermAtomHolds, Violation, value_of_term}
use Rattle.ba_facts.specs.Known.{ShownNotNull}
use Rattle.ba_facts.specs.Shown.{Absurd, Refutes, Shows, TheSame}
use Rattle.ba_facts.specs.declared.branch.Branch.{Branch}
use Rattle.ba_facts.specs.declared.term.Lesson.{Lesson}
use Rattle.ba_facts.specs.declared.term.Term.{Term}
use Rattle.ba_facts.specs.declared.term.Term.TheVariants.{Unknown, Val, Param, Var}
use Rattle.ba_facts.specs.declared.term.TermAtom.{TermAtom}

-- the kind of a term, if it is there; NULL has none
abbrev pub kind_of_term : Branch → Term → Option Kind
kind_of_term b (Unknown n) = option_map (λ sort. sort.kind) (slice_get b.known.unknowns n)
kind_of_term b (Val v) = kind_of_value v
kind_of_term b (Param n) = slice_get b.params n
kind_of_term b (Var n) = slice_get b.vars n

-- order is of whole numbers alone
abbrev pub TermOpFits : Op → Kind → Type 0
TermOpFits Eq kind = Unit {0}
TermOpFits Ne kind = Unit {0}
TermOpFits Lt kind = kind ≡ IntKind
TermOpFits Le kind = kind ≡ IntKind
TermOpFits IsNull kind = Unit {0}
TermOpFits NotNull kind = Unit {0}

-- both sides are there and of one kind, and order is of whole numbers
pub record TermAtomFits (b : Branch) (atom : TermAtom) : Type 0 where
  pub kind : Kind
  pub left_is : kind_of_term b atom.left ≡ Some kind
  pub right_is : kind_of_term b atom.right ≡ Some kind
  pub op : TermOpFits atom.op kind

-- both sides have values of one kind, or NULL, and order is of whole numbers
pub record ValuesFit (i : Instance) (values : List Value) (atom : TermAtom) : Type 0 where
  pub kind : Kind
  pub left : Value
  pub right : Value
  pub left_is : value_of_term i values atom.left ≡ Some left
  pub right_is : value_of_term i values atom.right ≡ Some right
  pub left_fits : IsOfKind kind left ⊎ (left ≡ Null)
  pub right_fits : IsOfKind kind right ⊎ (right ≡ Null)
  pub op : TermOpFits atom.op kind

-- what is shown is true in every fit, where the sides' values fit
abbrev pub ShownIsTrueOfValues : Type 0
ShownIsTrueOfValues = (s : Schema) (b : Branch) (i : Instance) (d e : RowSet)
    (r values : List Value) (atom : TermAtom) →
    FitsAt s b i d e r values → ValuesFit i values atom → Shows b.known atom →
    TermAtomHolds i values atom

-- a term that is shown not null has no NULL as its value in a fit
abbrev pub NotNullIsTrue : Type 0
NotNullIsTrue = (s : Schema) (b : Branch) (i : Instance) (d e : RowSet) (r values : List Value)
    (x : Term) →
    FitsAt s b i d e r values → ShownNotNull b.known x → value_of_term i values x ≢ Some Null

-- what is shown is true in every fit
abbrev pub ShownIsTrue : Type 0
ShownIsTrue = (s : Schema) (b : Branch) (i : Instance) (d e : RowSet) (r values : List Value)
    (atom : TermAtom) →
    FitsAt s b i d e r values → TermAtomFits b atom → Shows b.known atom →
    TermAtomHolds i values atom

-- what is refuted is false in every fit
abbrev pub RefutedIsFalse : Type 0
RefutedIsFalse = (s : Schema) (b : Branch) (i : Instance) (d e : RowSet) (r values : List Value)
    (atom : TermAtom) →
    FitsAt s b i d e r values → Refutes b.known atom → ¬ (TermAtomHolds i values atom)

-- terms that are the same have one value in every fit
abbrev pub SameIsTrue : Type 0
SameIsTrue = (s : Schema) (b : Branch) (i : Instance) (d e : RowSet) (r values : List Value)
    (x y : Term) →
    FitsAt s b i d e r values → TheSame b.known x y →
    value_of_term i values x ≡ value_of_term i values y

-- an absurd branch has no fit
abbrev pub AbsurdHasNoFit : Type 0
AbsurdHasNoFit = (s : Schema) (b : Branch) (i : Instance) (d e : RowSet) (r : List Value) →
    Absurd b.known → ¬ (Fits s b i d e r)

-- the branch with one thing more that was learned
abbrev pub with_lesson : Branch → Lesson → Branch
with_lesson b lesson = record b {
  known = record b.known
      { learned = b.known.learned ++ lesson ∷ [] };
}

-- learning what is true keeps a fit
abbrev pub TrueLessonKeepsFit : Type 0
TrueLessonKeepsFit = (s : Schema) (b : Branch) (i : Instance) (d e : RowSet) (r values : List Value)
    (lesson : Lesson) →
    FitsAt s b i d e r values → LessonHolds i values lesson →
    FitsAt s (with_lesson b lesson) i d e r values

-- a query is strongly compliant exactly where no two databases and no row break that
abbrev pub StrongHasNoViolation : Type 0
StrongHasNoViolation = (policy : Policy) (c : Context) (trace : List TraceEntry) (q : Query) →
    Strong policy c trace q ↔ ((d e : RowSet) (r : List Value) →
    ¬ (Violation policy c trace q d e r))
