-- Which atoms over terms are shown, and which are refuted, by what is known.
use Rattle.std.specs.Prelude.{◌≡◌, ℤ, pos, ◌<ℤ◌, ◌⊎◌}
use Rattle.ba_model.specs.declared.query.Op.{Op}
use Rattle.ba_model.specs.declared.query.Op.TheVariants.{Eq, Ne, Lt, Le, IsNull, NotNull}
use Rattle.ba_facts.specs.Known.{Known, Learned, OneClass, ShownNotNull, ShownNull, DifferentLiterals, Chain, ShownGap}
use Rattle.ba_facts.specs.declared.term.Lesson.{Lesson}
use Rattle.ba_facts.specs.declared.term.Lesson.TheVariants.{Same, Holds}
use Rattle.ba_facts.specs.declared.term.Term.{Term}
use Rattle.ba_facts.specs.declared.term.TermAtom.{TermAtom}

-- the two are the same: one class, or each at most the other
abbrev pub TheSame : Known → Term → Term → Type 0
TheSame k a b = OneClass k a b ⊎ (ShownGap k a (pos 0) b × ShownGap k b (pos 0) a)

pub record NeitherNull (k : Known) (a b : Term) : Type 0 where
  pub left : ShownNotNull k a
  pub right : ShownNotNull k b

abbrev pub EitherNull : Known → Term → Term → Type 0
EitherNull k a b = ShownNull k a ⊎ ShownNull k b

-- `a = b`, `a <= b` and `a < b` are shown
pub record IsEqual (k : Known) (a b : Term) : Type 0 where
  pub not_null : NeitherNull k a b
  pub same : TheSame k a b

pub record IsAtMost (k : Known) (a b : Term) : Type 0 where
  pub not_null : NeitherNull k a b
  pub gap : ShownGap k a (pos 0) b

pub record IsLess (k : Known) (a b : Term) : Type 0 where
  pub not_null : NeitherNull k a b
  pub gap : ShownGap k a (pos 1) b

-- x and y are the two, one way or the other
abbrev pub AreTheTwo : Known → Term → Term → Term → Term → Type 0
AreTheTwo k x y a b = (TheSame k a x × TheSame k b y) ⊎ (TheSame k a y × TheSame k b x)

-- a learned `x <> y` is of the two
pub record RecordedApart (k : Known) (a b : Term) : Type 0 where
  pub x : Term
  pub y : Term
  pub learned : Learned k Ne x y
  pub sides : AreTheTwo k x y a b

-- `a = b` is refuted
pub data IsUnequal (k : Known) (a b : Term) : Type 0 where
  literals : DifferentLiterals k a b → IsUnequal k a b
  less : IsLess k a b → IsUnequal k a b
  greater : IsLess k b a → IsUnequal k a b
  apart : RecordedApart k a b → IsUnequal k a b
  null : EitherNull k a b → IsUnequal k a b

-- the atom is shown
abbrev pub ShowsOf : Known → Op → Term → Term → Type 0
ShowsOf k Eq a b = IsEqual k a b
ShowsOf k Ne a b = NeitherNull k a b × IsUnequal k a b
ShowsOf k Lt a b = IsLess k a b
ShowsOf k Le a b = IsAtMost k a b
ShowsOf k IsNull a b = ShownNull k a
ShowsOf k NotNull a b = ShownNotNull k a

-- the atom is refuted
abbrev pub RefutesOf : Known → Op → Term → Term → Type 0
RefutesOf k Eq a b = IsUnequal k a b
RefutesOf k Ne a b = IsEqual k a b ⊎ EitherNull k a b
RefutesOf k Lt a b = IsAtMost k b a ⊎ EitherNull k a b
RefutesOf k Le a b = IsLess k b a ⊎ EitherNull k a b
RefutesOf k IsNull a b = ShownNotNull k a
RefutesOf k NotNull a b = ShownNull k a

abbrev pub Shows : Known → TermAtom → Type 0
Shows k atom = ShowsOf k atom.op atom.left atom.right

abbrev pub Refutes : Known → TermAtom → Type 0
Refutes k atom = RefutesOf k atom.op atom.left atom.right

-- what is known can't be true: a class has two different literals, a class is null and not null, an
-- inequality is of the same, or a chain rises back to where it began
pub data Absurd (k : Known) : Type 0 where
  literals : {a : Term} → DifferentLiterals k a a → Absurd k
  null : {a : Term} → ShownNull k a → ShownNotNull k a → Absurd k
  apart : {a b : Term} → Learned k Ne a b → IsEqual k a b → Absurd k
  rising : {a : Term} {n : ℤ} → pos 0 <ℤ n → Chain k a n a → Absurd k

-- ---- lesson by lesson

-- the lesson is such an `x <> y`
abbrev pub TellsApart : Known → Lesson → Term → Term → Type 0
TellsApart k (Same x y) a b = ⊥
TellsApart k (Holds atom) a b = (atom.op ≡ Ne) × AreTheTwo k atom.left atom.right a b

-- the lesson is an `x <> y` of which `x = y` is shown
abbrev pub IsEqualApart : Known → Lesson → Type 0
IsEqualApart k (Same x y) = ⊥
IsEqualApart k (Holds atom) = (atom.op ≡ Ne) × IsEqual k atom.left atom.right

pub record HasEqualApart (k : Known) : Type 0 where
  pub left : Term
  pub right : Term
  pub learned : Learned k Ne left right
  pub equal : IsEqual k left right
