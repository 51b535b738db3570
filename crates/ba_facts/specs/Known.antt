-- What is known of the terms of a branch, and which of them are one class.
use Rattle.std.specs.Prelude.{◌≡◌, ◌≢◌, ℕ, ℤ, pos, ◌+ℤ◌, ◌-ℤ◌, ◌≤ℤ◌, List, Contains, Some, slice_get, false}
use Rattle.ba_model.specs.declared.query.Op.{Op}
use Rattle.ba_model.specs.declared.query.Op.TheVariants.{Eq, Ne, Lt, Le, IsNull, NotNull}
use Rattle.ba_model.specs.declared.value.Value.{Value}
use Rattle.ba_model.specs.declared.value.Value.TheVariants.{Null, Int}
use Rattle.ba_facts.specs.declared.term.Lesson.{Lesson}
use Rattle.ba_facts.specs.declared.term.Lesson.TheVariants.{Same, Holds}
use Rattle.ba_facts.specs.declared.term.Sort.{Sort}
use Rattle.ba_facts.specs.declared.term.Term.{Term}
use Rattle.ba_facts.specs.declared.term.Term.TheVariants.{Unknown, Val, Param, Var}
use Rattle.ba_facts.specs.declared.term.TermRef.{TermRef}
use Rattle.ba_facts.specs.declared.term.TermRef.TheVariants as references

-- the term that a reference stands for
abbrev pub seen : TermRef → Term
seen (references.Unknown n) = Unknown n
seen (references.Val v) = Val v.now
seen (references.Param n) = Param n
seen (references.Var n) = Var n

-- the sorts of the unknowns, and what was learned of terms, the oldest first
pub record Known : Type 0 where
  pub unknowns : List Sort
  pub learned : List Lesson

-- the comparison was learned
abbrev pub Learned : Known → Op → Term → Term → Type 0
Learned k op a b = Contains k.learned (Holds (record { op = op; left = a; right = b }))

-- two terms were made equal: as the same, by `=`, or by IS NULL
pub data Equated (k : Known) : Term → Term → Type 0 where
  same : {a b : Term} → Contains k.learned (Same a b) → Equated k a b
  equal : {a b : Term} → Learned k Eq a b → Equated k a b
  null : {a b : Term} → Learned k IsNull a b → Equated k a (Val Null)

-- two terms are of one class: the least equivalence that has the terms that were made equal
pub data OneClass (k : Known) : Term → Term → Type 0 where
  equated : {a b : Term} → Equated k a b → OneClass k a b
  itself : {a : Term} → OneClass k a a
  turned : {a b : Term} → OneClass k a b → OneClass k b a
  joined : {a b c : Term} → OneClass k a b → OneClass k b c → OneClass k a c

-- a side of it is compared with the other, so that neither is NULL
abbrev pub IsComparison : Op → Type 0
IsComparison Eq = Unit {0}
IsComparison Ne = Unit {0}
IsComparison Lt = Unit {0}
IsComparison Le = Unit {0}
IsComparison IsNull = ⊥
IsComparison NotNull = ⊥

-- the term isn't NULL: by itself, or since it was recorded so
pub data NotNullTerm (k : Known) : Term → Type 0 where
  column : {n : ℕ} {sort : Sort} → slice_get k.unknowns n ≡ Some sort → sort.nullable ≡ false →
      NotNullTerm k (Unknown n)
  literal : {v : Value} → v ≢ Null → NotNullTerm k (Val v)
  param : {n : ℕ} → NotNullTerm k (Param n)
  var : {n : ℕ} → NotNullTerm k (Var n)
  left : {op : Op} {a b : Term} → Learned k op a b → IsComparison op → NotNullTerm k a
  right : {op : Op} {a b : Term} → Learned k op a b → IsComparison op → NotNullTerm k b
  recorded : {a b : Term} → Learned k NotNull a b → NotNullTerm k a

-- the term is shown not null: its class has one that isn't
pub record ShownNotNull (k : Known) (a : Term) : Type 0 where
  pub other : Term
  pub class : OneClass k a other
  pub not_null : NotNullTerm k other

-- the term is shown null
abbrev pub ShownNull : Known → Term → Type 0
ShownNull k a = OneClass k a (Val Null)

-- the two terms' classes have different literals
pub record DifferentLiterals (k : Known) (a b : Term) : Type 0 where
  pub left : Value
  pub right : Value
  pub left_in : OneClass k a (Val left)
  pub right_in : OneClass k b (Val right)
  pub differ : left ≢ right

-- a step from one term to another that is at least so much greater: to one of its class, to one
-- that it was learned to be at most or less than, or from one whole number to another
pub data Rise (k : Known) : Term → ℤ → Term → Type 0 where
  within : {a b : Term} → OneClass k a b → Rise k a (pos 0) b
  at_most : {a b : Term} → Learned k Le a b → Rise k a (pos 0) b
  less : {a b : Term} → Learned k Lt a b → Rise k a (pos 1) b
  number : {n m : ℤ} → Rise k (Val (Int n)) (m -ℤ n) (Val (Int m))

-- steps from one term to another, each from where the one before it ends, and what they add up to
pub data Chain (k : Known) : Term → ℤ → Term → Type 0 where
  none : {a : Term} → Chain k a (pos 0) a
  first : {a b c : Term} {n m : ℤ} → Rise k a n b → Chain k b m c → Chain k a (n +ℤ m) c

-- a plus n is shown to be at most b: a chain from a to b adds up to n or more
pub record ShownGap (k : Known) (a : Term) (n : ℤ) (b : Term) : Type 0 where
  pub sum : ℤ
  pub enough : n ≤ℤ sum
  pub chain : Chain k a sum b
