-- What the words come to: their plan is followed, and the templates of a file are those that its bytes
-- hold, each line's steps taken anew.
use Rattle.std.specs.Prelude.{◌≡◌, ◌⊎◌, ℕ, List, Result, Ok, Err, ⊤, IsErrAnd}
use Rattle.ba_kernel.specs.SearchStates as kernel
use Rattle.ba_model.specs.Limits.{most_file_bytes}
use Rattle.ba_model.specs.declared.policy.Policy.{Policy}
use Rattle.ba_outside.specs.Seen.{Contents, FilesSeen}
use Rattle.ba_plan.specs.Follows.{Follows, Got, Missed}
use Rattle.ba_plan.specs.Plan.{Plan, outcome_of}
use Rattle.ba_plan.specs.declared.stop.Stop.{Stop}
use Rattle.ba_plan.specs.declared.stop.Stop.TheVariants.{Refused, Read, TooLong, NoMemory}
use Rattle.ba_store.specs.Loads.{Loads}
use Rattle.ba_store.specs.declared.fault.StoreFault.{StoreFault}
use Rattle.ba_input.specs.Reading.{Gathered, loading, plan_of, ready}
use Rattle.ba_input.specs.Refusals.{template_refusal}
use Rattle.ba_input.specs.declared.input.Input.{Input}
use Rattle.ba_input.specs.declared.task.Task.{Task}
use Rattle.ba_input.specs.declared.task.Task.TheVariants as task
use Rattle.ba_input.specs.declared.task.Told.{Told}
use Rattle.ba_wire.specs.declared.fault.Fault.{Fault}

-- ---- templates

-- the bytes of the file come to these templates, or to a fault that is told so; or memory ran out
abbrev pub Loaded : Policy → List ℕ → List ℕ → Result (List kernel.Proof) (Stop Fault) → Type 0
Loaded policy file bytes (Ok templates) = Loads policy bytes (Ok templates)
Loaded policy file bytes (Err (Refused it)) =
    (fault : StoreFault) × Loads policy bytes (Err fault) × (it ≡ template_refusal file fault)
Loaded policy file bytes (Err (Read other)) = ⊥
Loaded policy file bytes (Err (TooLong other limit)) = ⊥
Loaded policy file bytes (Err NoMemory) = ⊤

-- the file was asked for, and its bytes came to that; or the call gave none
abbrev pub Finds : Policy → List ℕ → FilesSeen → FilesSeen → Result (List kernel.Proof) (Stop Fault)
    → Type 0
Finds policy file old new result = IsErrAnd result (Missed file most_file_bytes old new)
    ⊎ ((bytes : List ℕ) × Got file most_file_bytes bytes old new
    × Loaded policy file bytes result)

-- ---- what is done

-- the run that begins with the templates
abbrev pub run_with : Input → Told → Result (List kernel.Proof) (Stop Fault) → Result Task (Stop Fault)
run_with input told (Ok templates) = Ok (task.Run (record input { loaded = templates }) told)
run_with input told (Err stop) = Err stop

-- the run with the templates that the bytes of the file come to, or why there is none
pub record IsRunWith (input : Input) (told : Told) (file bytes : List ℕ)
    (result : Result Task (Stop Fault)) : Type 0 where
  pub templates : Result (List kernel.Proof) (Stop Fault)
  pub loaded : Loaded input.policy file bytes templates
  pub is : result ≡ run_with input told templates

-- what becomes of what the files give
abbrev pub Becomes : Result Gathered (Stop Fault) → Result Task (Stop Fault) → Type 0
Becomes (Err stop) result = result ≡ Err stop
Becomes (Ok (ready it)) result = result ≡ Ok it
Becomes (Ok (loading input told file bytes)) result = IsRunWith input told file bytes result

-- the plan was followed from the old files to the new ones, and what these gave came to the result
pub record Comes (plan : Plan Fault Gathered) (old new : FilesSeen)
    (result : Result Task (Stop Fault)) : Type 0 where
  pub gave : Result Gathered (Stop Fault)
  pub follows : Follows plan old new gave
  pub becomes : Becomes gave result

-- What the words came to, whatever the files did.
abbrev pub Reads : List (List ℕ) → FilesSeen → FilesSeen → Result Task (Stop Fault) → Type 0
Reads words old new result = Comes (plan_of words) old new result

-- What the words come to where the contents are told, nothing fails and memory suffices.
abbrev pub Outcome : Contents → List (List ℕ) → Result Task (Stop Fault) → Type 0
Outcome contents words result = Becomes (outcome_of contents (plan_of words)) result

-- an answer that is neither a read fault nor want of memory is one of these
abbrev pub IsSettled : Result Task (Stop Fault) → (Result Task (Stop Fault) → Type 0) → Type 0
IsSettled (Ok it) Whole = Whole (Ok it)
IsSettled (Err (Refused it)) Whole = Whole (Err (Refused it))
IsSettled (Err (TooLong file limit)) Whole = Whole (Err (TooLong file limit))
IsSettled (Err (Read file)) Whole = ⊤
IsSettled (Err NoMemory) Whole = ⊤
