-- Atoms that are dropped one by one from what is assumed, as long as the steps still prove the problem.
use Rattle.std.specs.Prelude.{◌≡◌, ℕ, ◌-◌, ◌<◌, Bool, true, false, List, [], ◌∷◌, ◌++◌, All, Option, Some, None, get_or, length, replicate, take, drop}
use Rattle.ba_model.specs.declared.query.Atom.{Atom}
use Rattle.ba_model.specs.declared.query.Operand.{Operand}
use Rattle.ba_model.specs.declared.query.Operand.TheVariants.{Col, Val, Param, Var}
use Rattle.ba_kernel.specs.Replays.{Closes}
use Rattle.ba_kernel.specs.SearchStates.{Proof}
use Rattle.ba_kernel.specs.declared.problem.Problem.{Problem}
use Rattle.ba_kernel.specs.declared.step.Step.{Step}
use Rattle.ba_general.specs.Patterns.{assuming}
use Rattle.ba_general.specs.declared.dropping.Guess.{Guess}

-- with these atoms assumed the steps are accepted and leave no branch open
abbrev pub IsAccepted : Problem → List Step → List Atom → Type 0
IsAccepted g taken atoms = Closes (assuming g atoms) taken

-- Of the atoms between those before and those after, from the last to the first, each is dropped without which P still is; the others are left.
pub data Drops (P : List Atom → Type 0) (before : List Atom) : List Atom → List Atom → List Atom → Type 0 where
  done : {after : List Atom} → Drops P before [] after []
  drops : {atoms after left : List Atom} (atom : Atom) → P (before ++ atoms ++ after) → Drops P before atoms after left →
      Drops P before (atoms ++ atom ∷ []) after left
  stays : {atoms after left : List Atom} (atom : Atom) → ¬ (P (before ++ atoms ++ after)) → Drops P before atoms (atom ∷ after) left →
      Drops P before (atoms ++ atom ∷ []) after (left ++ atom ∷ [])

-- no atom of the list can be dropped
abbrev pub NoneCanBeDropped : (List Atom → Type 0) → List Atom → Type 0
NoneCanBeDropped P atoms = (before after : List Atom) (atom : Atom) → atoms ≡ before ++ atom ∷ after → ¬ (P (before ++ after))

-- some atoms of a list, in its order
pub data AreSomeOf : List Atom → List Atom → Type 0 where
  none : AreSomeOf [] []
  with : {some all : List Atom} {atom : Atom} → AreSomeOf some all → AreSomeOf (atom ∷ some) (atom ∷ all)
  without : {some all : List Atom} {atom : Atom} → AreSomeOf some all → AreSomeOf some (atom ∷ all)

-- neither side is a column: the atom can be assumed
abbrev pub IsNoColumn : Operand → Type 0
IsNoColumn (Col place column) = ⊥
IsNoColumn (Val v) = Unit {0}
IsNoColumn (Param n) = Unit {0}
IsNoColumn (Var n) = Unit {0}

pub record CanBeAssumed (atom : Atom) : Type 0 where
  pub left : IsNoColumn atom.left
  pub right : IsNoColumn atom.right

-- what is accepted with some atoms assumed is accepted with more
abbrev pub AcceptanceGrows : Type 0
AcceptanceGrows = (g : Problem) (taken : List Step) (some all : List Atom) → All CanBeAssumed all → AreSomeOf some all → IsAccepted g taken some →
    IsAccepted g taken all

-- where all of a run can be dropped at once, each is dropped in turn
abbrev pub RunDropsEach : Type 0
RunDropsEach = (g : Problem) (taken : List Step) (before run after : List Atom) → All CanBeAssumed (before ++ run ++ after) → IsAccepted g taken (before ++ after) →
    Drops (IsAccepted g taken) before run after []

-- Whatever of those before and after stays, no atom that is left of a run can be dropped: each group's pass leaves what no later group's makes needless.
abbrev pub PassIsMinimal : Type 0
PassIsMinimal = (g : Problem) (taken : List Step) (before run after left some others first last : List Atom) (atom : Atom) → All CanBeAssumed (before ++ run ++ after) →
    Drops (IsAccepted g taken) before run after left → AreSomeOf some before → AreSomeOf others after → left ≡ first ++ atom ∷ last →
    ¬ (IsAccepted g taken (some ++ first ++ last ++ others))

-- ---- the atoms that are still kept

abbrev pub atom_if : Atom → Bool → List Atom
atom_if atom true = atom ∷ []
atom_if atom false = []

abbrev pub kept_atoms : List Atom → List Bool → List Atom
kept_atoms [] kept = []
kept_atoms (atom ∷ atoms) [] = []
kept_atoms (atom ∷ atoms) (k ∷ kept) = atom_if atom k ++ kept_atoms atoms kept

-- the numbers from the first up to the end
abbrev pub between : {X : Type 0} → ℕ → ℕ → List X → List X
between first end xs = take (end - first) (drop first xs)

-- Of a run of atoms, all of which were kept, those stay that can't be dropped from the last to the first; the others are as they were.
pub record DropsRun (P : List Atom → Type 0) (atoms : List Atom) (old new : List Bool) (first end : ℕ) : Type 0 where
  pub before : take first new ≡ take first old
  pub after : drop end new ≡ drop end old
  pub run : Drops P (kept_atoms (take first atoms) (take first old)) (between first end atoms) (kept_atoms (drop end atoms) (drop end old))
      (kept_atoms (between first end atoms) (between first end new))

abbrev pub AllKept : List Bool → Type 0
AllKept kept = All (λ k. k ≡ true) kept

-- ---- a run at once

-- the flags, where nothing of the run is kept
abbrev pub without_run : List Bool → ℕ → ℕ → List Bool
without_run kept first end = take first kept ++ replicate (end - first) false ++ drop end kept

-- P isn't without the run
abbrev pub IsRefusedAtOnce : (List Atom → Type 0) → List Atom → List Bool → ℕ → ℕ → Type 0
IsRefusedAtOnce P atoms kept first end = ¬ (P (kept_atoms atoms (without_run kept first end)))

-- all of the run is dropped, if that is asked and P is without it; else all is as before
pub data IsTriedAtOnce (P : List Atom → Type 0) (atoms : List Atom) (old new : List Bool) (first end : ℕ) (asked : Bool) : Bool → Type 0 where
  gone : P (kept_atoms atoms (without_run old first end)) → new ≡ without_run old first end → IsTriedAtOnce P atoms old new first end asked true
  stays : (asked ≡ true → IsRefusedAtOnce P atoms old first end) → new ≡ old → IsTriedAtOnce P atoms old new first end asked false

-- ---- the proof that steps are

-- the steps as a proof of the problem, or that they don't close it
abbrev pub IsProofBy : Problem → List Step → Option Proof → Type 0
IsProofBy p taken None = ¬ (Closes p taken)
IsProofBy p taken (Some it) = Closes p taken × (it ≡ record { problem = p; steps = taken })

-- a proof that is there is of the atoms that are kept
pub record IsLast (g : Problem) (taken : List Step) (atoms : List Atom) (kept : List Bool) (last : Option Proof) : Type 0 where
  pub is : (it : Proof) → last ≡ Some it → it ≡ record { problem = assuming g (kept_atoms atoms kept); steps = taken }

-- ---- a guess

-- the steps are accepted with the atoms that it keeps, and it has the proof
pub record IsGuess (g : Problem) (taken : List Step) (atoms : List Atom) (guess : Guess) : Type 0 where
  pub flags : length guess.kept.items ≡ length atoms
  pub accepted : IsAccepted g taken (kept_atoms atoms guess.kept.items)
  pub is : guess.proof ≡ record { problem = assuming g (kept_atoms atoms guess.kept.items); steps = taken }

-- what is kept of some is kept of all
pub record AreAmong (some all : List Bool) : Type 0 where
  pub each : (i : ℕ) → i < length some → get_or some i false ≡ true → get_or all i false ≡ true
