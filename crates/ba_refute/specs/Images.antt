-- The image of a branch: values for its unknowns, and the two databases and the row that they give.
use Rattle.std.specs.Prelude.{◌≡◌, ℕ, ◌+◌, ◌<◌, ◌≤◌, ℤ, pos, ◌+ℤ◌, ◌≤ℤ◌, ◌==◌, List, [], ◌∷◌, ◌++◌, All, AllPairs, Contains, length, map, take, Option, Some, slice_get, slice_index, slice_index_or}
use Rattle.std.specs.Fmt.{decimal}
use Rattle.std.specs.List.{flat_map, prefix_len, repeat, zip}
use Rattle.std.specs.List.Sorted.{IsStrictlySortedBy}
use Rattle.std.specs.Ordering.{nat_cmp}
use Rattle.ba_model.specs.declared.policy.Context.{Context}
use Rattle.ba_model.specs.declared.policy.View.{View}
use Rattle.ba_model.specs.declared.query.Atom.{Atom}
use Rattle.ba_model.specs.declared.query.Operand.{Operand}
use Rattle.ba_model.specs.declared.query.Operand.TheVariants.{Col as ColOperand, Val as ValOperand, Param as ParamOperand, Var as VarOperand}
use Rattle.ba_model.specs.declared.query.Part.{Part}
use Rattle.ba_model.specs.declared.query.Query.{Query}
use Rattle.ba_model.specs.declared.schema.Kind.{Kind}
use Rattle.ba_model.specs.declared.schema.Kind.TheVariants.{Int as IntKind, Text as TextKind}
use Rattle.ba_model.specs.declared.schema.Rule.{Rule}
use Rattle.ba_model.specs.declared.value.RowSet.{RowSet}
use Rattle.ba_model.specs.declared.value.Value.{Value}
use Rattle.ba_model.specs.declared.value.Value.TheVariants.{Null, Int, Text}
use Rattle.ba_classes.specs.Image.{IsGreatest, IsLeast, IsValueBetween}
use Rattle.ba_facts.specs.Fits.{Instance, value_of_term}
use Rattle.ba_facts.specs.Knowing.{IsLeastOf}
use Rattle.ba_facts.specs.Known.{Known, OneClass, ShownGap, ShownNotNull}
use Rattle.ba_facts.specs.Shown.{Absurd}
use Rattle.ba_facts.specs.declared.branch.Branch.{Branch}
use Rattle.ba_facts.specs.declared.term.Fact.{Fact}
use Rattle.ba_facts.specs.declared.term.Lesson.{Lesson}
use Rattle.ba_facts.specs.declared.term.Lesson.TheVariants.{Same, Holds}
use Rattle.ba_facts.specs.declared.term.Side.{Side}
use Rattle.ba_facts.specs.declared.term.Side.TheVariants.{One, Two}
use Rattle.ba_facts.specs.declared.term.Sort.{Sort}
use Rattle.ba_facts.specs.declared.term.Term.{Term}
use Rattle.ba_facts.specs.declared.term.Term.TheVariants.{Unknown, Val, Param, Var}
use Rattle.ba_facts.specs.declared.term.TermAtom.{TermAtom}
use Rattle.ba_kernel.specs.declared.problem.Problem.{Problem}
use Rattle.ba_kernel.specs.declared.problem.ProblemEntry.{ProblemEntry}
use Rattle.ba_refute.specs.declared.clause.Counterexample.{Counterexample}

-- ---- literals

abbrev pub literals_of_operand : Operand → List Value
literals_of_operand (ColOperand place column) = []
literals_of_operand (ValOperand v) = v ∷ []
literals_of_operand (ParamOperand n) = []
literals_of_operand (VarOperand n) = []

abbrev pub literals_of_atom : Atom → List Value
literals_of_atom atom = literals_of_operand atom.left ++ literals_of_operand atom.right

abbrev pub literals_of_part : Part → List Value
literals_of_part part =
    flat_map literals_of_atom part.conds ++ flat_map literals_of_operand part.head

abbrev pub literals_of_query : Query → List Value
literals_of_query q = flat_map literals_of_part q.parts

abbrev pub literals_of_view : View → List Value
literals_of_view view = literals_of_query view.query

abbrev pub literals_of_rule : Rule → List Value
literals_of_rule rule = literals_of_query rule.left ++ literals_of_query rule.right

abbrev pub literals_of_entry : ProblemEntry → List Value
literals_of_entry entry = literals_of_query entry.query ++ flat_map literals_of_operand entry.row

abbrev pub literals_of_term : Term → List Value
literals_of_term (Unknown n) = []
literals_of_term (Val v) = v ∷ []
literals_of_term (Param n) = []
literals_of_term (Var n) = []

abbrev pub literals_of_term_atom : TermAtom → List Value
literals_of_term_atom atom = literals_of_term atom.left ++ literals_of_term atom.right

abbrev pub literals_of_lesson : Lesson → List Value
literals_of_lesson (Same a b) = literals_of_term a ++ literals_of_term b
literals_of_lesson (Holds atom) = literals_of_term_atom atom

abbrev pub literals_of_fact : Fact → List Value
literals_of_fact fact = flat_map literals_of_term fact.terms

-- those of the rules, the views, the goal, the entries and what is assumed
abbrev pub literals_of_problem : Problem → List Value
literals_of_problem p =
    flat_map literals_of_rule p.policy.schema.rules ++ (flat_map literals_of_view p.policy.views ++
    (literals_of_query p.goal ++
    (flat_map literals_of_entry p.entries ++ flat_map literals_of_atom p.assumed)))

-- those of what was learned, the facts and the goal row
abbrev pub literals_of_branch : Branch → List Value
literals_of_branch b =
    flat_map literals_of_lesson b.known.learned ++
    (flat_map literals_of_fact b.facts ++ flat_map literals_of_term b.goal)

abbrev pub literals : Problem → Branch → List Value
literals p b = literals_of_problem p ++ literals_of_branch b

abbrev pub number_of_value : Value → List ℤ
number_of_value Null = []
number_of_value (Int n) = n ∷ []
number_of_value (Text t) = []

-- the whole numbers among some values
abbrev pub numbers_of : List Value → List ℤ
numbers_of values = flat_map number_of_value values

-- how many signs `~` a text begins with
abbrev pub signs : Value → ℕ
signs Null = 0
signs (Int n) = 0
signs (Text t) = prefix_len (λ byte. byte == 126) t

-- the least number from 1 on such that no text of these begins with so many signs
pub record IsMarks (values : List Value) (marks : ℕ) : Type 0 where
  pub from : 1 ≤ marks
  pub passes : All (λ v. signs v < marks) values
  pub least : (m : ℕ) → 1 ≤ m → All (λ v. signs v < m) values → marks ≤ m

-- ---- classes of unknowns

-- the unknown is there, and no lesser one is of its class
pub record IsLeastUnknown (k : Known) (n : ℕ) : Type 0 where
  pub there : n < length k.unknowns
  pub least : (m : ℕ) → m < n → ¬ (OneClass k (Unknown n) (Unknown m))

abbrev pub HasNoLiteral : Known → ℕ → Type 0
HasNoLiteral k n = (v : Value) → ¬ (OneClass k (Unknown n) (Val v))

pub record HasKind (k : Known) (kind : Kind) (n : ℕ) : Type 0 where
  pub sort : Sort
  pub sort_is : slice_get k.unknowns n ≡ Some sort
  pub kind_is : sort.kind ≡ kind

-- the unknown is of the kind, its class has no literal, and it is shown not null
pub record IsFreeUnknown (k : Known) (kind : Kind) (n : ℕ) : Type 0 where
  pub has_kind : HasKind k kind n
  pub no_literal : HasNoLiteral k n
  pub not_null : ShownNotNull k (Unknown n)

-- ---- whole numbers

-- a class of whole numbers that is valued, by its least unknown
pub record IsNode (k : Known) (n : ℕ) : Type 0 where
  pub least : IsLeastUnknown k n
  pub free : IsFreeUnknown k IntKind n

-- the strictly rising list of exactly these
pub record AreNodes (k : Known) (nodes : List ℕ) : Type 0 where
  pub rising : IsStrictlySortedBy nat_cmp nodes
  pub sound : (n : ℕ) → Contains nodes n → IsNode k n
  pub complete : (n : ℕ) → IsNode k n → Contains nodes n

-- what is known shows, with the values of some terms, that the term is at least c
pub record IsLowerBound (k : Known) (valued : List (Term × ℤ)) (term : Term) (c : ℤ) : Type 0 where
  pub other : Term
  pub value : ℤ
  pub gap : ℤ
  pub has_value : Contains valued (other, value)
  pub shown : ShownGap k other gap term
  pub enough : c ≤ℤ (value +ℤ gap)

-- and that it is at most c
pub record IsUpperBound (k : Known) (valued : List (Term × ℤ)) (term : Term) (c : ℤ) : Type 0 where
  pub other : Term
  pub value : ℤ
  pub gap : ℤ
  pub has_value : Contains valued (other, value)
  pub shown : ShownGap k term gap other
  pub enough : value ≤ℤ (c +ℤ gap)

-- the term's value, with the greatest lower and the least upper bound that are shown
pub record IsNumberOf (k : Known) (valued : List (Term × ℤ)) (used : List ℤ) (term : Term)
    (value : ℤ) : Type 0 where
  pub low : Option ℤ
  pub high : Option ℤ
  pub low_is : IsGreatest (IsLowerBound k valued term) low
  pub high_is : IsLeast (IsUpperBound k valued term) high
  pub between : IsValueBetween used low high value

-- The number 0 and some unknowns with their values. Any other whole number is a literal that is
-- shown to be so much above 0.
abbrev pub with_zero : List ℕ → List ℤ → List (Term × ℤ)
with_zero nodes values = (Val (Int (pos 0)), pos 0) ∷ zip (map Unknown nodes) values

-- each node has its value, where the nodes before it have theirs; the literals and the values
-- before it are used
pub record AreNumbers (k : Known) (used : List ℤ) (nodes : List ℕ) (values : List ℤ) : Type 0 where
  pub len : length values ≡ length nodes
  pub each : (i : ℕ) → i < length nodes →
      IsNumberOf k (with_zero (take i nodes) (take i values)) (used ++ take i values)
      (Unknown (slice_index nodes i)) (slice_index_or values i (pos 0))

-- ---- values

-- The value of a class, by its least unknown: its literal; NULL where it isn't shown not null; a
-- text that no literal begins with; or its number.
pub data IsClassValue (k : Known) (all : List Value) (nodes : List ℕ) (numbers : List ℤ)
    (n : ℕ) : Value → Type 0 where
  literal : {v : Value} → OneClass k (Unknown n) (Val v) → IsClassValue k all nodes numbers n v
  null : HasNoLiteral k n → ¬ (ShownNotNull k (Unknown n)) → IsClassValue k all nodes numbers n Null
  text : {marks : ℕ} → IsFreeUnknown k TextKind n → IsMarks all marks →
      IsClassValue k all nodes numbers n (Text (repeat marks (126 ∷ []) ++ decimal n))
  number : {value : ℤ} → IsFreeUnknown k IntKind n → Contains (zip nodes numbers) (n, value) →
      IsClassValue k all nodes numbers n (Int value)

-- the value of an unknown is that of its class
pub record IsValueOf (k : Known) (all : List Value) (nodes : List ℕ) (numbers : List ℤ) (n : ℕ)
    (v : Value) : Type 0 where
  pub least : ℕ
  pub is_least : IsLeastOf k n least
  pub value : IsClassValue k all nodes numbers least v

-- the values of the branch's unknowns, where these are all literals
pub record AreValues (k : Known) (all : List Value) (values : List Value) : Type 0 where
  pub nodes : List ℕ
  pub numbers : List ℤ
  pub nodes_are : AreNodes k nodes
  pub numbers_are : AreNumbers k (numbers_of all) nodes numbers
  pub len : length values ≡ length k.unknowns
  pub each : (n : ℕ) (v : Value) → slice_get values n ≡ Some v → IsValueOf k all nodes numbers n v

-- ---- databases

-- a context, where there are no variables
abbrev pub given : Context → Instance
given c = record { context = c; vars = [] }

-- the terms' values are the row
abbrev pub IsRowAt : Context → List Value → List Term → List Value → Type 0
IsRowAt c values terms r = map (value_of_term (given c) values) terms ≡ map Some r

-- a fact of the table on the side is the row
pub record IsFactRow (c : Context) (values : List Value) (facts : List Fact) (side : Side)
    (table : ℕ) (r : List Value) : Type 0 where
  pub fact : Fact
  pub there : Contains facts fact
  pub side_is : fact.side ≡ side
  pub table_is : fact.table ≡ table
  pub row : IsRowAt c values fact.terms r

-- The first of the facts that are r stands before the first that is s: of the facts in order a front
-- that has s has r before its last fact.
abbrev pub ComesBefore : Context → List Value → List Fact → Side → ℕ → List Value → List Value →
    Type 0
ComesBefore c values facts side table r s =
    (n : ℕ) → IsFactRow c values (take (n + 1) facts) side table s →
    IsFactRow c values (take n facts) side table r

-- the list of exactly these rows, each once, in the order of the facts
pub record AreFactRows (c : Context) (values : List Value) (facts : List Fact) (side : Side)
    (table : ℕ) (rows : List (List Value)) : Type 0 where
  pub in_order : AllPairs (ComesBefore c values facts side table) rows
  pub sound : (r : List Value) → Contains rows r → IsFactRow c values facts side table r
  pub complete : (r : List Value) → IsFactRow c values facts side table r → Contains rows r

-- those of so many tables
pub record AreSideRows (c : Context) (values : List Value) (facts : List Fact) (tables : ℕ)
    (side : Side) (all : List (List (List Value))) : Type 0 where
  pub len : length all ≡ tables
  pub each : (table : ℕ) (rows : List (List Value)) → slice_get all table ≡ Some rows →
      AreFactRows c values facts side table rows

-- the database of the facts of a side, with a list of rows for each table of the problem's schema
abbrev pub IsSideOf : Problem → Context → List Value → List Fact → Side → RowSet → Type 0
IsSideOf p c values facts side d =
    AreSideRows c values facts (length p.policy.schema.tables) side d.tables

-- the image of a branch under a context
pub record IsImage (p : Problem) (c : Context) (b : Branch) (it : Counterexample) : Type 0 where
  pub values : List Value
  pub values_are : AreValues b.known (literals p b) values
  pub one : IsSideOf p c values b.facts One it.one
  pub two : IsSideOf p c values b.facts Two it.two
  pub row : IsRowAt c values b.goal it.row

-- a branch that isn't absurd has one image at most under a context
abbrev pub ImagesAreOne : Type 0
ImagesAreOne =
    (p : Problem) (c : Context) (b : Branch) (it other : Counterexample) → ¬ (Absurd b.known) →
    IsImage p c b it → IsImage p c b other → it ≡ other

-- ---- what is asked of the branch

-- the term has a value where so many unknowns have
abbrev pub IsValued : ℕ → Context → Term → Type 0
IsValued unknowns c (Unknown n) = n < unknowns
IsValued unknowns c (Val v) = Unit {0}
IsValued unknowns c (Param n) = n < length c.values
IsValued unknowns c (Var n) = ⊥

abbrev pub FactIsValued : ℕ → Context → Fact → Type 0
FactIsValued unknowns c fact = All (IsValued unknowns c) fact.terms

abbrev pub AreValued : ℕ → Context → List Fact → Type 0
AreValued unknowns c facts = All (FactIsValued unknowns c) facts
