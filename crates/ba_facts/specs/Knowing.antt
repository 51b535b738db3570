-- Terms that are there, and what can't be true of classes or of the order alone.
use Rattle.std.specs.Prelude.{ℕ, ◌<◌, ℤ, pos, ◌<ℤ◌, Option, Some, None, length}
use Rattle.ba_classes.specs.Image.{IsGreatest}
use Rattle.ba_model.specs.declared.schema.Column.{Column}
use Rattle.ba_model.specs.declared.value.Value.{Value}
use Rattle.ba_facts.specs.Known.{Known, Chain, DifferentLiterals, OneClass, ShownGap, ShownNotNull, ShownNull}
use Rattle.ba_facts.specs.declared.term.Lesson.{Lesson}
use Rattle.ba_facts.specs.declared.term.Lesson.TheVariants.{Same, Holds}
use Rattle.ba_facts.specs.declared.term.Sort.{Sort}
use Rattle.ba_facts.specs.declared.term.Term.{Term}
use Rattle.ba_facts.specs.declared.term.Term.TheVariants.{Unknown, Val, Param, Var}

-- the term is no unknown past those that are there
abbrev pub IsThere : Known → Term → Type 0
IsThere k (Unknown n) = n < length k.unknowns
IsThere k (Val v) = Unit {0}
IsThere k (Param n) = Unit {0}
IsThere k (Var n) = Unit {0}

-- both of its terms are there
abbrev pub LessonIsThere : Known → Lesson → Type 0
LessonIsThere k (Same a b) = IsThere k a × IsThere k b
LessonIsThere k (Holds atom) = IsThere k atom.left × IsThere k atom.right

-- the sort of an unknown of the column
abbrev pub sort_of : Column → Sort
sort_of column = record { kind = column.kind; nullable = column.nullable }

-- a class has two different literals, or is null and not null
pub data IsClashing (k : Known) : Type 0 where
  literals : {a : Term} → DifferentLiterals k a a → IsClashing k
  null : {a : Term} → ShownNull k a → ShownNotNull k a → IsClashing k

-- a chain rises back to where it began
pub record IsRising (k : Known) : Type 0 where
  pub term : Term
  pub sum : ℤ
  pub above : pos 0 <ℤ sum
  pub chain : Chain k term sum term

-- a literal of the term's class, if it has one
abbrev pub IsLiteralIn : Known → Term → Option Value → Type 0
IsLiteralIn k a None = (v : Value) → ¬ (OneClass k a (Val v))
IsLiteralIn k a (Some v) = OneClass k a (Val v)

-- the least unknown of the class of an unknown
pub record IsLeastOf (k : Known) (n least : ℕ) : Type 0 where
  pub one_class : OneClass k (Unknown n) (Unknown least)
  pub none_less : (m : ℕ) → m < least → ¬ (OneClass k (Unknown n) (Unknown m))

-- the greatest number that a is shown to be less than b by, if it is shown of any
abbrev pub IsBound : Known → Term → Term → Option ℤ → Type 0
IsBound k a b bound = IsGreatest (λ n. ShownGap k a n b) bound
