-- When a branch fits two databases, and which of them break strong compliance.
use Rattle.std.specs.Prelude.{◌≡◌, IsTrue, List, All, Contains, map, Option, Some, slice_get}
use Rattle.std.specs.List.{AllZip}
use Rattle.ba_model.specs.Conform.{Conforms, IsOfKind}
use Rattle.ba_model.specs.Fit.{ContextFits}
use Rattle.ba_model.specs.Meaning.{Compares, InAnswer, rows_of}
use Rattle.ba_model.specs.declared.policy.Context.{Context}
use Rattle.ba_model.specs.declared.policy.Policy.{Policy}
use Rattle.ba_model.specs.declared.query.Query.{Query}
use Rattle.ba_model.specs.declared.schema.Schema.{Schema}
use Rattle.ba_model.specs.declared.value.RowSet.{RowSet}
use Rattle.ba_model.specs.declared.value.Value.{Value}
use Rattle.ba_model.specs.declared.value.Value.TheVariants.{Null, Int, Text}
use Rattle.ba_comply.specs.Comply.{Within, Shows as ShowsTrace}
use Rattle.ba_comply.specs.declared.trace.TraceEntry.{TraceEntry}
use Rattle.ba_facts.specs.declared.branch.Branch.{Branch}
use Rattle.ba_facts.specs.declared.term.Fact.{Fact}
use Rattle.ba_facts.specs.declared.term.Lesson.{Lesson}
use Rattle.ba_facts.specs.declared.term.Lesson.TheVariants.{Same, Holds}
use Rattle.ba_facts.specs.declared.term.Side.{Side}
use Rattle.ba_facts.specs.declared.term.Side.TheVariants.{One, Two}
use Rattle.ba_facts.specs.declared.term.Sort.{Sort}
use Rattle.ba_facts.specs.declared.term.Term.{Term}
use Rattle.ba_facts.specs.declared.term.Term.TheVariants.{Unknown, Val, Param, Var}
use Rattle.ba_facts.specs.declared.term.TermAtom.{TermAtom}

-- an instance of a problem: a context, and a value for each variable
pub record Instance : Type 0 where
  pub context : Context
  pub vars : List Value

-- the value of a term, if it has one, where the unknowns have these values
abbrev pub value_of_term : Instance → List Value → Term → Option Value
value_of_term i values (Unknown n) = slice_get values n
value_of_term i values (Val v) = Some v
value_of_term i values (Param n) = slice_get i.context.values n
value_of_term i values (Var n) = slice_get i.vars n

-- the atom is true of its sides' values
pub record TermAtomHolds (i : Instance) (values : List Value) (atom : TermAtom) : Type 0 where
  pub left : Value
  pub right : Value
  pub left_is : value_of_term i values atom.left ≡ Some left
  pub right_is : value_of_term i values atom.right ≡ Some right
  pub compared : Compares atom.op left right

-- the two terms have one value
pub record SameValue (i : Instance) (values : List Value) (a b : Term) : Type 0 where
  pub value : Value
  pub left_is : value_of_term i values a ≡ Some value
  pub right_is : value_of_term i values b ≡ Some value

-- what was learned is true
abbrev pub LessonHolds : Instance → List Value → Lesson → Type 0
LessonHolds i values (Same a b) = SameValue i values a b
LessonHolds i values (Holds atom) = TermAtomHolds i values atom

-- the value may stand for an unknown of the sort: it is of its kind, or NULL where that may be
abbrev pub IsOfSort : Sort → Value → Type 0
IsOfSort sort Null = IsTrue sort.nullable
IsOfSort sort (Int n) = IsOfKind sort.kind (Int n)
IsOfSort sort (Text t) = IsOfKind sort.kind (Text t)

abbrev pub database_of : RowSet → RowSet → Side → RowSet
database_of d e One = d
database_of d e Two = e

-- the terms' values are a row of the fact's table on its side
pub record FactHolds (i : Instance) (values : List Value) (d e : RowSet)
    (fact : Fact) : Type 0 where
  pub row : List Value
  pub terms : map (value_of_term i values) fact.terms ≡ map Some row
  pub there : Contains (rows_of (database_of d e fact.side) fact.table) row

-- both databases conform, and with these values for the unknowns the facts are rows of theirs, what
-- was learned is true, and the goal row is r
pub record FitsAt (s : Schema) (b : Branch) (i : Instance) (d e : RowSet)
    (r values : List Value) : Type 0 where
  pub one : Conforms s d
  pub two : Conforms s e
  pub params : ContextFits b.params i.context
  pub vars : AllZip IsOfKind b.vars i.vars
  pub sorts : AllZip IsOfSort b.known.unknowns values
  pub facts : All (FactHolds i values d e) b.facts
  pub learned : All (LessonHolds i values) b.known.learned
  pub goal : map (value_of_term i values) b.goal ≡ map Some r

-- there are values for the branch's unknowns that make it true of d and e with the row r
abbrev pub Fits : Schema → Branch → Instance → RowSet → RowSet → List Value → Type 0
Fits s b i d e r = (values : List Value) × FitsAt s b i d e r values

-- Two databases and a row that break strong compliance: both conform, e has the views' rows of d, d
-- shows the trace, and the row is one of the query in d and not in e.
pub record Violation (policy : Policy) (c : Context) (trace : List TraceEntry) (q : Query)
    (d e : RowSet) (r : List Value) : Type 0 where
  pub one : Conforms policy.schema d
  pub two : Conforms policy.schema e
  pub within : Within policy c d e
  pub shown : ShowsTrace trace c d
  pub asked : InAnswer q c d r
  pub absent : ¬ (InAnswer q c e r)
