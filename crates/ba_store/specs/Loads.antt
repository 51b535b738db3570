-- What a template file comes to: the templates of its lines, or one fault. That steps are accepted is
-- a relation of the kernel, so this is one too; it gives each file one outcome
-- (`crate::laws::file_has_one_outcome`).
use Rattle.std.specs.Prelude.{◌≡◌, ℕ, ◌+◌, ◌<◌, ◌≤◌, List, [], ◌∷◌, ◌++◌, length, Result, Ok, Err, ⊤}
use Rattle.std.specs.List.{AllZip}
use Rattle.ba_model.specs.Limits.{most_templates}
use Rattle.ba_model.specs.declared.failure.Failure.{Failure}
use Rattle.ba_model.specs.declared.failure.Failure.TheVariants.{NoMemory, Fault}
use Rattle.ba_model.specs.declared.policy.Policy.{Policy}
use Rattle.ba_kernel.specs.Replays.{Closes, RefusesAt}
use Rattle.ba_kernel.specs.SearchStates.{Proof}
use Rattle.ba_proof.specs.Checked.{LeavesOpen}
use Rattle.ba_proof.specs.declared.proof.Proof.{Proof as Draft}
use Rattle.ba_script.specs.Lines.{script_lines}
use Rattle.ba_store.specs.Reading.{draft_of, draft_with}
use Rattle.ba_store.specs.declared.fault.LineFault.{LineFault}
use Rattle.ba_store.specs.declared.fault.LineFault.TheVariants as line
use Rattle.ba_store.specs.declared.fault.StoreFault.{StoreFault}
use Rattle.ba_store.specs.declared.fault.StoreFault.TheVariants.{TooMany, Json, Field, NotShown, StillOpen}

-- the lines of a file: a line feed ends each, the last may do without, and a carriage return before a
-- line feed is dropped, as in scripts
abbrev pub lines_of : List ℕ → List (List ℕ)
lines_of bytes = script_lines bytes

-- ---- a line

-- where a line's fault stands
abbrev pub at_line : ℕ → LineFault → StoreFault
at_line number line.Json = Json number
at_line number (line.Field field) = Field number field

-- Of the problem and the steps that a line says: they are a template where all steps are accepted in
-- turn from the problem's start, and leave no branch open. Else a step isn't accepted, or all are and
-- branches are open.
abbrev pub Proves : ℕ → Draft → Result Proof StoreFault → Type 0
Proves number draft (Ok it) = Closes draft.problem draft.steps × (it.problem ≡ draft.problem) × (it.steps ≡ draft.steps)
Proves number draft (Err (TooMany limit)) = ⊥
Proves number draft (Err (Json line)) = ⊥
Proves number draft (Err (Field line field)) = ⊥
Proves number draft (Err (NotShown line step fault)) = (line ≡ number) × RefusesAt draft.problem draft.steps step fault
Proves number draft (Err (StillOpen line branches)) = (line ≡ number) × LeavesOpen draft.problem draft.steps branches

-- the bytes of a line are this template
pub record IsLineOf (policy : Policy) (bytes : List ℕ) (it : Proof) : Type 0 where
  pub says : draft_of policy bytes ≡ Ok (draft_with it.problem it.steps)
  pub closes : Closes it.problem it.steps

-- the bytes of the line of this number are none, for this fault: they say no problem and steps, or
-- the steps don't prove the problem
pub data IsBadLine (policy : Policy) (number : ℕ) (bytes : List ℕ) : StoreFault → Type 0 where
  unread : {fault : LineFault} → draft_of policy bytes ≡ Err fault → IsBadLine policy number bytes (at_line number fault)
  unproved : {fault : StoreFault} (draft : Draft) → draft_of policy bytes ≡ Ok draft → Proves number draft (Err fault) →
      IsBadLine policy number bytes fault

-- what the line comes to
abbrev pub LineLoads : Policy → ℕ → List ℕ → Result Proof StoreFault → Type 0
LineLoads policy number bytes (Ok it) = IsLineOf policy bytes it
LineLoads policy number bytes (Err fault) = IsBadLine policy number bytes fault

-- ---- the lines, which are numbered from 1

-- the first line that is no template has the fault
pub record HasBadLine (policy : Policy) (lines : List (List ℕ)) (fault : StoreFault) : Type 0 where
  pub front : List (List ℕ)
  pub bytes : List ℕ
  pub rest : List (List ℕ)
  pub before : List Proof
  pub splits : lines ≡ front ++ bytes ∷ rest
  pub templates : AllZip (IsLineOf policy) front before
  pub bad : IsBadLine policy (length front + 1) bytes fault

-- a template in each line, or the fault of the first that is none
abbrev pub LinesLoad : Policy → List (List ℕ) → Result (List Proof) StoreFault → Type 0
LinesLoad policy lines (Ok templates) = AllZip (IsLineOf policy) lines templates
LinesLoad policy lines (Err fault) = HasBadLine policy lines fault

-- ---- the file

-- there aren't too many lines, and they come to this
pub record FewLoad (policy : Policy) (lines : List (List ℕ)) (outcome : Result (List Proof) StoreFault) : Type 0 where
  pub few : length lines ≤ most_templates
  pub lines_load : LinesLoad policy lines outcome

-- what the bytes come to: that there are too many lines, else what the lines come to
pub data Loads (policy : Policy) (bytes : List ℕ) : Result (List Proof) StoreFault → Type 0 where
  many : most_templates < length (lines_of bytes) → Loads policy bytes (Err (TooMany most_templates))
  few : {outcome : Result (List Proof) StoreFault} → FewLoad policy (lines_of bytes) outcome → Loads policy bytes outcome

-- ---- calls

-- what was returned is such an outcome; want of memory may stand in place of any
abbrev pub Answers : {Y F : Type 0} → Result Y (Failure F) → (Result Y F → Type 0) → Type 0
Answers (Ok x) Outcome = Outcome (Ok x)
Answers (Err NoMemory) Outcome = ⊤
Answers (Err (Fault fault)) Outcome = Outcome (Err fault)
