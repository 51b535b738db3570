-- Terms that learned comparisons by `<=` or `<` speak of.
use Rattle.std.specs.Prelude.{◌≡◌, ℕ, ℤ, pos, List, [], ◌∷◌, ◌++◌, Contains, ◌⊎◌}
use Rattle.ba_classes.specs.Image.{IsLeastUnused}
use Rattle.ba_facts.specs.Known.{Known, OneClass}
use Rattle.ba_facts.specs.declared.term.Lesson.{Lesson}
use Rattle.ba_facts.specs.declared.term.Lesson.TheVariants.{Same, Holds}
use Rattle.ba_facts.specs.declared.term.Term.{Term}
use Rattle.ba_facts.specs.declared.term.Term.TheVariants.{Unknown}
use Rattle.ba_facts.specs.declared.term.TermAtom.{TermAtom}
use Rattle.ba_model.specs.declared.query.Op.{Op}
use Rattle.ba_model.specs.declared.query.Op.TheVariants.{Eq, Ne, Lt, Le, IsNull, NotNull}
use Rattle.ba_refute.specs.Images.{IsNode, IsNumberOf}

-- the comparison is of the order
abbrev pub IsOfOrder : Op → Type 0
IsOfOrder Eq = ⊥
IsOfOrder Ne = ⊥
IsOfOrder Lt = Unit {0}
IsOfOrder Le = Unit {0}
IsOfOrder IsNull = ⊥
IsOfOrder NotNull = ⊥

-- the atom is such a comparison, and one of its sides is of the term's class
abbrev pub ComparesClass : Known → TermAtom → Term → Type 0
ComparesClass k atom t = IsOfOrder atom.op × (OneClass k t atom.left ⊎ OneClass k t atom.right)

abbrev pub TellsOfClass : Known → Lesson → Term → Type 0
TellsOfClass k (Same a b) t = ⊥
TellsOfClass k (Holds atom) t = ComparesClass k atom t

-- such a comparison was learned
pub record IsCompared (k : Known) (t : Term) : Type 0 where
  pub lesson : Lesson
  pub learned : Contains k.learned lesson
  pub tells : TellsOfClass k lesson t

-- each class of whole numbers that is compared has its least unknown among these; there may be others
abbrev pub HaveCompared : Known → List ℕ → Type 0
HaveCompared k unknowns = (n : ℕ) → IsNode k n → IsCompared k (Unknown n) → Contains unknowns n

-- the unknowns of before are there, and of these classes each least unknown
pub record HaveMore (k : Known) (Is : Term → Type 0) (old new : List ℕ) : Type 0 where
  pub kept : (n : ℕ) → Contains old n → Contains new n
  pub found : (n : ℕ) → IsNode k n → Is (Unknown n) → Contains new n

-- The node's number, and the values of terms that serve for later ones: that of a class that isn't
-- compared doesn't.
pub data IsNumbered (k : Known) (used : List ℤ) (n : ℕ) (old : List (Term × ℤ)) (value : ℤ)
    (new : List (Term × ℤ)) : Type 0 where
  compared : IsNumberOf k old used (Unknown n) value → new ≡ old ++ (Unknown n, value) ∷ [] →
      IsNumbered k used n old value new
  alone : ¬ (IsCompared k (Unknown n)) → IsLeastUnused used (pos 0) value → new ≡ old →
      IsNumbered k used n old value new
