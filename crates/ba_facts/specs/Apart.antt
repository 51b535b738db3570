-- Which of the lessons are inequalities.
use Rattle.std.specs.Prelude.{◌≡◌, ℕ, List, Contains, Some, slice_get}
use Rattle.ba_model.specs.declared.query.Op.TheVariants.{Ne}
use Rattle.ba_facts.specs.Known.{Known}
use Rattle.ba_facts.specs.Shown.{IsEqualApart, TellsApart}
use Rattle.ba_facts.specs.declared.term.Lesson.{Lesson}
use Rattle.ba_facts.specs.declared.term.Lesson.TheVariants.{Same, Holds}
use Rattle.ba_facts.specs.declared.term.Term.{Term}

-- the lesson is an inequality
abbrev pub IsApart : Lesson → Type 0
IsApart (Same x y) = ⊥
IsApart (Holds atom) = atom.op ≡ Ne

-- the place of each inequality is one of these
abbrev pub AreListed : List Lesson → List ℕ → Type 0
AreListed lessons places = (n : ℕ) (lesson : Lesson) → slice_get lessons n ≡ Some lesson →
    IsApart lesson → Contains places n

-- the lesson at the place is an `x <> y` of the two
pub record TellsApartAt (k : Known) (place : ℕ) (a b : Term) : Type 0 where
  pub lesson : Lesson
  pub there : slice_get k.learned place ≡ Some lesson
  pub tells : TellsApart k lesson a b

-- the lesson at the place is an `x <> y` of which `x = y` is shown
pub record IsEqualApartAt (k : Known) (place : ℕ) : Type 0 where
  pub lesson : Lesson
  pub there : slice_get k.learned place ≡ Some lesson
  pub equal : IsEqualApart k lesson
