-- Comparisons that close no circle: told to a branch, they make no two terms the same that weren't.
use Rattle.std.specs.Prelude.{◌≡◌, ◌⊎◌, ℕ, ℤ, pos, ◌+ℤ◌, ◌<ℤ◌, ◌<◌, [], ◌∷◌}
use Rattle.ba_model.specs.declared.query.Op.{Op}
use Rattle.ba_model.specs.declared.query.Op.TheVariants.{Eq, Ne, Lt, Le, IsNull, NotNull}
use Rattle.ba_facts.specs.Known.{Known, ShownGap}
use Rattle.ba_facts.specs.Shown.{NeitherNull}
use Rattle.ba_facts.specs.declared.branch.Branch.{Branch}
use Rattle.ba_facts.specs.declared.term.Lesson.{Lesson}
use Rattle.ba_facts.specs.declared.term.Lesson.TheVariants.{Holds}
use Rattle.ba_facts.specs.declared.term.Term.{Term}
use Rattle.ba_facts.specs.declared.term.TermAtom.{TermAtom}
use Rattle.ba_kernel.specs.Effects.{with_lessons}
use Rattle.ba_kernel.specs.News.{IsNewOn}
use Rattle.ba_kernel.specs.Steps.{IsRound}
use Rattle.ba_kernel.specs.declared.problem.Problem.{Problem}
use Rattle.ba_kernel.specs.declared.step.Step.{Step}
use Rattle.ba_instant.specs.Offers.{IsEntryOf, IsKeyStep, IsLinkStep, IsSplitStep}
use Rattle.ba_instant.specs.Windows.{IsQuietUpto}

-- the lesson tells that x plus so much is at most y
pub data IsRaise (lesson : Lesson) (x : Term) (by : ℤ) (y : Term) : Type 0 where
  at_most : lesson ≡ Holds (record { op = Le; left = x; right = y }) → by ≡ pos 0 →
      IsRaise lesson x by y
  less : lesson ≡ Holds (record { op = Lt; left = x; right = y }) → by ≡ pos 1 →
      IsRaise lesson x by y

-- neither is NULL, and every chain back falls by more
pub record IsLoose (k : Known) (x : Term) (by : ℤ) (y : Term) : Type 0 where
  pub not_null : NeitherNull k x y
  pub back : (sum : ℤ) → ShownGap k y sum x → (by +ℤ sum) <ℤ pos 0

-- so it is of the comparison and of its negation
abbrev pub IsLooseOf : Known → Op → Term → Term → Type 0
IsLooseOf k Eq x y = ⊥
IsLooseOf k Ne x y = ⊥
IsLooseOf k Lt x y = IsLoose k x (pos 1) y × IsLoose k y (pos 0) x
IsLooseOf k Le x y = IsLoose k x (pos 0) y × IsLoose k y (pos 1) x
IsLooseOf k IsNull x y = ⊥
IsLooseOf k NotNull x y = ⊥

abbrev pub IsLooseAtom : Known → TermAtom → Type 0
IsLooseAtom k atom = IsLooseOf k atom.op atom.left atom.right

-- a step by an entry, a link or a key, or a split
abbrev pub IsBeside : ℕ → Step → Type 0
IsBeside number step =
    ((IsEntryOf number step ⊎ IsLinkStep number step) ⊎ IsKeyStep number step) ⊎
    IsSplitStep number step

-- none of these is new there whose round is at most the bound
abbrev pub IsQuietBeside : Problem → Branch → ℕ → ℕ → Type 0
IsQuietBeside p b number bound =
    (step : Step) (round : ℕ) → IsBeside number step → IsNewOn p b step → IsRound p b step round →
    bound < round

-- A branch that is told a loose comparison stays as quiet, but maybe for steps by rules and views,
-- whatever its number is then.
abbrev pub LooseStays : Type 0
LooseStays =
    (p : Problem) (b : Branch) (lesson : Lesson) (x : Term) (by : ℤ) (y : Term)
    (number other bound : ℕ) → IsRaise lesson x by y → IsLoose b.known x by y →
    IsQuietUpto p b number bound → IsQuietBeside p (with_lessons b (lesson ∷ [])) other bound
