-- Numbered terms with their classes, marks and order, that they say what is known, and what else
-- may come to be known.
use Rattle.std.specs.Prelude.{◌≡◌, ◌≢◌, ℕ, ◌<◌, ◌≤◌, ◌^◌, ℤ, pos, ◌+ℤ◌, ◌-ℤ◌, ◌↔◌, ◌⊎◌, IsTrue, Bool, List, Contains, Option, Some, slice_get, length}
use Rattle.ba_model.specs.declared.query.Op.TheVariants.{Lt, Le}
use Rattle.ba_model.specs.declared.value.Value.TheVariants.{Int}
use Rattle.ba_classes.specs.Chains.{Shows}
use Rattle.ba_classes.specs.Merged.{Connected, Merged}
use Rattle.ba_classes.specs.declared.order.Difference.{Difference}
use Rattle.ba_facts.specs.Known.{Known, Chain, DifferentLiterals, Equated, Learned, NotNullTerm, OneClass, Rise}
use Rattle.ba_facts.specs.Knowing.{IsThere}
use Rattle.ba_facts.specs.Marks.{HasMark, IsMarkOf, home_of, number_place, own_not_null, own_place}
use Rattle.ba_facts.specs.declared.marks.Mark.{Mark}
use Rattle.ba_facts.specs.declared.marks.Place.{Place}
use Rattle.ba_facts.specs.declared.term.Term.{Term}
use Rattle.ba_facts.specs.declared.term.Term.TheVariants.{Val}
use Rattle.ba_facts.specs.declared.web.Web.{Web}

-- ---- numbers

pub record IsNumbered (terms : List Term) (t : Term) : Type 0 where
  pub number : ℕ
  pub there : slice_get terms number ≡ Some t

-- the term's number, if it has one
abbrev pub IsNumberOf : List Term → Term → Option ℕ → Type 0
IsNumberOf terms t number = (n : ℕ) → (number ≡ Some n) ↔ (slice_get terms n ≡ Some t)

-- the numbered terms are different and are there, and there are a class and a mark for each
pub record IsNaming (k : Known) (terms : List Term) (classes : Merged)
    (marks : List Mark) : Type 0 where
  pub few : length terms < 2 ^ 32
  pub roomy : length terms ≤ classes.terms
  pub marked : length terms ≤ length marks
  pub distinct : (n m : ℕ) (t : Term) → slice_get terms n ≡ Some t → slice_get terms m ≡ Some t →
      n ≡ m
  pub there : (n : ℕ) (t : Term) → slice_get terms n ≡ Some t → IsThere k t

-- ---- classes

-- the numbers are those of two terms of one class
pub record AreLinked (k : Known) (terms : List Term) (n m : ℕ) : Type 0 where
  pub left : Term
  pub right : Term
  pub left_is : slice_get terms n ≡ Some left
  pub right_is : slice_get terms m ≡ Some right
  pub class : OneClass k left right

-- the two terms have numbers that the merges connect
pub record AreConnected (terms : List Term) (merges : List (ℕ × ℕ)) (a b : Term) : Type 0 where
  pub left : ℕ
  pub right : ℕ
  pub left_is : slice_get terms left ≡ Some a
  pub right_is : slice_get terms right ≡ Some b
  pub connected : Connected merges left right

-- the merges are of what was made equal
pub record IsLinked (k : Known) (terms : List Term) (merges : List (ℕ × ℕ)) : Type 0 where
  pub sound : (n m : ℕ) → Contains merges (n, m) → AreLinked k terms n m
  pub complete : (a b : Term) → Equated k a b → AreConnected terms merges a b

-- ---- marks

abbrev pub HasTwoLiterals : Known → Type 0
HasTwoLiterals k = (a : Term) × DifferentLiterals k a a

-- each number's mark is that of its term's class, and what else isn't NULL is numbered
pub record IsMarked (k : Known) (terms : List Term) (merges : List (ℕ × ℕ)) (marks : List Mark)
    (several : Bool) : Type 0 where
  pub exact : (n : ℕ) (t : Term) (m : Mark) → slice_get terms n ≡ Some t →
      HasMark merges marks n m → IsMarkOf k terms t m
  pub noted : (t : Term) → NotNullTerm k t → IsTrue (own_not_null k.unknowns t) ⊎ IsNumbered terms t
  pub flag : IsTrue several ↔ HasTwoLiterals k

-- the mark is that of the term's class, and the term is numbered
pub record IsClassMark (terms : List Term) (merges : List (ℕ × ℕ)) (marks : List Mark) (a : Term)
    (m : Mark) : Type 0 where
  pub number : ℕ
  pub there : slice_get terms number ≡ Some a
  pub has_mark : HasMark merges marks number m

-- ---- the order

-- the class of the number has the place
pub record HasPlace (merges : List (ℕ × ℕ)) (marks : List Mark) (n : ℕ) (p : Place) : Type 0 where
  pub mark : Mark
  pub has_mark : HasMark merges marks n mark
  pub place_is : mark.place ≡ Some p

-- the facts show that what is at p plus g is at most what is at q
pub record RisesBy (facts : List Difference) (p : Place) (g : ℤ) (q : Place) : Type 0 where
  pub shown : Shows facts p.node ((g +ℤ p.offset) -ℤ q.offset) q.node

-- the facts show that the two places are equal
pub record AreEqualPlaces (facts : List Difference) (p q : Place) : Type 0 where
  pub up : RisesBy facts p (pos 0) q
  pub down : RisesBy facts q (pos 0) p

-- the fact is of two terms with such a chain
pub record IsShownFact (k : Known) (terms : List Term) (f : Difference) : Type 0 where
  pub low : Term
  pub high : Term
  pub low_is : home_of terms f.low ≡ Some low
  pub high_is : home_of terms f.high ≡ Some high
  pub chain : Chain k low f.gap high

-- the number's class has a place equal to this one
pub record IsPlacedAs (merges : List (ℕ × ℕ)) (marks : List Mark) (facts : List Difference) (n : ℕ)
    (p : Place) : Type 0 where
  pub place : Place
  pub has_place : HasPlace merges marks n place
  pub equal : AreEqualPlaces facts p place

-- the two terms have numbers and places, and the facts show this of them
pub record IsRaised (terms : List Term) (merges : List (ℕ × ℕ)) (marks : List Mark)
    (facts : List Difference) (a : Term) (g : ℤ) (b : Term) : Type 0 where
  pub low : ℕ
  pub high : ℕ
  pub low_is : slice_get terms low ≡ Some a
  pub high_is : slice_get terms high ≡ Some b
  pub from : Place
  pub to : Place
  pub has_low : HasPlace merges marks low from
  pub has_high : HasPlace merges marks high to
  pub rises : RisesBy facts from g to

-- the facts are of chains, and show the whole numbers and what was learned to be at most or less
pub record IsOrdered (k : Known) (terms : List Term) (merges : List (ℕ × ℕ)) (marks : List Mark)
    (facts : List Difference) : Type 0 where
  pub shown : (f : Difference) → Contains facts f → IsShownFact k terms f
  pub numbers : (n : ℕ) (c : ℤ) → slice_get terms n ≡ Some (Val (Int c)) →
      IsPlacedAs merges marks facts n (number_place c)
  pub at_most : (a b : Term) → Learned k Le a b → IsRaised terms merges marks facts a (pos 0) b
  pub less : (a b : Term) → Learned k Lt a b → IsRaised terms merges marks facts a (pos 1) b

-- ---- the place of any term

-- a term has its class's place where it has a number, and else its own
pub data PlaceOf (terms : List Term) (merges : List (ℕ × ℕ)) (marks : List Mark) : Term → Place →
    Type 0 where
  by_class : {a : Term} {p : Place} (n : ℕ) → slice_get terms n ≡ Some a →
      HasPlace merges marks n p → PlaceOf terms merges marks a p
  by_itself : {a : Term} {p : Place} → ((n : ℕ) → slice_get terms n ≢ Some a) →
      own_place a ≡ Some p → PlaceOf terms merges marks a p

-- the two terms have places, and the facts show this of them
pub record AnyRise (terms : List Term) (merges : List (ℕ × ℕ)) (marks : List Mark)
    (facts : List Difference) (a : Term) (g : ℤ) (b : Term) : Type 0 where
  pub from : Place
  pub to : Place
  pub low : PlaceOf terms merges marks a from
  pub high : PlaceOf terms merges marks b to
  pub rises : RisesBy facts from g to

-- the two terms have places, and each is shown to be at most the other
pub record IsLevel (terms : List Term) (merges : List (ℕ × ℕ)) (marks : List Mark)
    (facts : List Difference) (a b : Term) : Type 0 where
  pub one : Place
  pub other : Place
  pub first : PlaceOf terms merges marks a one
  pub second : PlaceOf terms merges marks b other
  pub up : RisesBy facts one (pos 0) other
  pub down : RisesBy facts other (pos 0) one

-- ---- all of it

-- the numbers, the classes and the marks say what is known
pub record IsTerms (k : Known) (terms : List Term) (classes : Merged) (marks : List Mark)
    (several : Bool) : Type 0 where
  pub naming : IsNaming k terms classes marks
  pub linked : IsLinked k terms classes.merges
  pub marked : IsMarked k terms classes.merges marks several

-- and the order too
pub record IsWhole (k : Known) (terms : List Term) (classes : Merged) (marks : List Mark)
    (order : List Difference) (several : Bool) : Type 0 where
  pub terms_are : IsTerms k terms classes marks several
  pub ordered : IsOrdered k terms classes.merges marks order

-- the web says what is known
abbrev pub IsWeb : Known → Web → Type 0
IsWeb k w = IsWhole k w.names w.classes w.marks.items w.order w.several

-- it says what is known of something
pub record IsSomeWeb (w : Web) : Type 0 where
  pub known : Known
  pub web : IsWeb known w

-- ---- what else is known

-- what k says, l says too
pub record Extends (k l : Known) : Type 0 where
  pub equated : (a b : Term) → Equated k a b → Equated l a b
  pub not_null : (a : Term) → NotNullTerm k a → NotNullTerm l a
  pub at_most : (a b : Term) → Learned k Le a b → Learned l Le a b
  pub less : (a b : Term) → Learned k Lt a b → Learned l Lt a b

-- and no other order
pub record KeepsOrder (k l : Known) : Type 0 where
  pub at_most : (a b : Term) → Learned l Le a b → Learned k Le a b
  pub less : (a b : Term) → Learned l Lt a b → Learned k Lt a b

-- l says that a and b are equal too, and no more
pub record Joins (k l : Known) (a b : Term) : Type 0 where
  pub unknowns : l.unknowns ≡ k.unknowns
  pub extends : Extends k l
  pub order : KeepsOrder k l
  pub new : Equated l a b
  pub only : (t u : Term) → Equated l t u → Equated k t u ⊎ ((t ≡ a) × (u ≡ b))
  pub not_null : (t : Term) → NotNullTerm l t → NotNullTerm k t

-- l says too that a isn't NULL, makes no more equal, and says of no other term that it isn't NULL
pub record Denies (k l : Known) (a : Term) : Type 0 where
  pub unknowns : l.unknowns ≡ k.unknowns
  pub extends : Extends k l
  pub equated : (t u : Term) → Equated l t u → Equated k t u
  pub new : NotNullTerm l a
  pub only : (t : Term) → NotNullTerm l t → NotNullTerm k t ⊎ (t ≡ a)

-- l says too that a plus g is at most b, says no more of order, and makes no more equal
pub record Raises (k l : Known) (a : Term) (g : ℤ) (b : Term) : Type 0 where
  pub extends : Extends k l
  pub equated : (t u : Term) → Equated l t u → Equated k t u
  pub new : Rise l a g b
  pub at_most : (t u : Term) → Learned l Le t u → Learned k Le t u
      ⊎ ((t ≡ a) × (u ≡ b) × (g ≡ pos 0))
  pub less : (t u : Term) → Learned l Lt t u → Learned k Lt t u ⊎ ((t ≡ a) × (u ≡ b) × (g ≡ pos 1))
