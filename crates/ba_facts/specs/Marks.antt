-- What is kept of a class of terms, and what of a term alone.
use Rattle.std.specs.Prelude.{◌≡◌, ℕ, zero, suc, ℤ, pos, neg_ℤ, ◌↔◌, Bool, true, false, ◌||◌, not, IsTrue, if◌then◌else◌, ◌==◌, List, Option, Some, None, slice_get, slice_set as set, length, ◌<◌}
use Rattle.ba_model.specs.declared.value.Value.{Value}
use Rattle.ba_model.specs.declared.value.Value.TheVariants.{Null, Int, Text}
use Rattle.ba_classes.specs.Merged.{IsLabel}
use Rattle.ba_facts.specs.Known.{Known, Chain, DifferentLiterals, OneClass, ShownNotNull}
use Rattle.ba_facts.specs.declared.marks.Literals.{Literals}
use Rattle.ba_facts.specs.declared.marks.Literals.TheVariants.{Absent, One, Several}
use Rattle.ba_facts.specs.declared.marks.Mark.{Mark}
use Rattle.ba_facts.specs.declared.marks.Place.{Place}
use Rattle.ba_facts.specs.declared.term.Sort.{Sort}
use Rattle.ba_facts.specs.declared.term.Term.{Term}
use Rattle.ba_facts.specs.declared.term.Term.TheVariants.{Unknown, Val, Param, Var}

-- ---- of a term alone

abbrev pub never_null : Option Sort → Bool
never_null None = false
never_null (Some sort) = not sort.nullable

abbrev pub is_no_null : Value → Bool
is_no_null Null = false
is_no_null (Int n) = true
is_no_null (Text t) = true

-- the term isn't NULL by itself
abbrev pub own_not_null : List Sort → Term → Bool
own_not_null unknowns (Unknown n) = never_null (slice_get unknowns n)
own_not_null unknowns (Val v) = is_no_null v
own_not_null unknowns (Param n) = true
own_not_null unknowns (Var n) = true

abbrev pub own_literals : ℕ → Term → Literals
own_literals number (Unknown n) = Absent
own_literals number (Val v) = One number
own_literals number (Param n) = Absent
own_literals number (Var n) = Absent

-- the place of a whole number
abbrev pub number_place : ℤ → Place
number_place n = record { node = 0; offset = n }

abbrev pub value_place : Value → Option Place
value_place Null = None
value_place (Int n) = Some (number_place n)
value_place (Text t) = None

abbrev pub own_place : Term → Option Place
own_place (Unknown n) = None
own_place (Val v) = value_place v
own_place (Param n) = None
own_place (Var n) = None

abbrev pub own_mark : List Sort → ℕ → Term → Mark
own_mark unknowns number t = record {
  literals = own_literals number t;
  not_null = own_not_null
      unknowns t;
  place = own_place t;
}

-- ---- of two classes that become one

abbrev pub is_several : Literals → Bool
is_several Absent = false
is_several (One l) = false
is_several (Several l) = true

abbrev pub two_literals : ℕ → ℕ → Literals
two_literals l m = if l == m then One l else Several l

abbrev pub both_literals : Literals → Literals → Literals
both_literals Absent b = b
both_literals (One l) Absent = One l
both_literals (One l) (One m) = two_literals l m
both_literals (One l) (Several m) = Several l
both_literals (Several l) b = Several l

abbrev pub both_places : Option Place → Option Place → Option Place
both_places None b = b
both_places (Some p) b = Some p

abbrev pub both_marks : Mark → Mark → Mark
both_marks a b = record {
  literals = both_literals a.literals b.literals;
  not_null = a.not_null ||
      b.not_null;
  place = both_places a.place b.place;
}

-- ---- what a mark says of a term

-- the literal of this number is in the term's class
pub record HasLiteral (k : Known) (terms : List Term) (a : Term) (number : ℕ) : Type 0 where
  pub value : Value
  pub there : slice_get terms number ≡ Some (Val value)
  pub class : OneClass k a (Val value)

abbrev pub HasOneLiteral : Known → Term → Type 0
HasOneLiteral k a = (v w : Value) → OneClass k a (Val v) → OneClass k a (Val w) → v ≡ w

abbrev pub AreLiterals : Known → List Term → Term → Literals → Type 0
AreLiterals k terms a Absent = (v : Value) → ¬ (OneClass k a (Val v))
AreLiterals k terms a (One l) = HasLiteral k terms a l × HasOneLiteral k a
AreLiterals k terms a (Several l) = HasLiteral k terms a l × DifferentLiterals k a a

-- the term that a node stands for: the number 0, or the term whose number is one less
abbrev pub home_of : List Term → ℕ → Option Term
home_of terms zero = Some (Val (Int (pos 0)))
home_of terms (suc n) = slice_get terms n

-- the term is so much above the node's
pub record LiesAt (k : Known) (terms : List Term) (a : Term) (p : Place) : Type 0 where
  pub home : Term
  pub home_is : home_of terms p.node ≡ Some home
  pub up : Chain k home p.offset a
  pub down : Chain k a (neg_ℤ p.offset) home

abbrev pub IsPlaceOf : Known → List Term → Term → Option Place → Type 0
IsPlaceOf k terms a None = Unit {0}
IsPlaceOf k terms a (Some p) = LiesAt k terms a p

pub record IsMarkOf (k : Known) (terms : List Term) (a : Term) (m : Mark) : Type 0 where
  pub literals : AreLiterals k terms a m.literals
  pub not_null : IsTrue m.not_null ↔ ShownNotNull k a
  pub place : IsPlaceOf k terms a m.place

-- the mark of the class of this number, which its label has
pub record HasMark (merges : List (ℕ × ℕ)) (marks : List Mark) (n : ℕ) (m : Mark) : Type 0 where
  pub label : ℕ
  pub is_label : IsLabel merges n label
  pub there : slice_get marks label ≡ Some m

-- the class of this number was given the mark
pub record IsUpdated (merges : List (ℕ × ℕ)) (old new : List Mark) (n : ℕ) (m : Mark) : Type 0 where
  pub label : ℕ
  pub is_label : IsLabel merges n label
  pub within : label < length old
  pub new_is : new ≡ set old label m

-- the mark of this number's class now says that it isn't NULL
pub record IsDenied (merges : List (ℕ × ℕ)) (old new : List Mark) (n : ℕ) : Type 0 where
  pub mark : Mark
  pub has_mark : HasMark merges old n mark
  pub updated : IsUpdated merges old new n (record mark { not_null = true })
