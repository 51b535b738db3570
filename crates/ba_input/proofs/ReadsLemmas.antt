-- What follows from how the words were read.
use Rattle.std.proofs.Common.{◌≡◌, ◌⊎◌, inl, inr, sym, subst, ℕ, List, Some, Result, Ok, Err}
use Rattle.std.specs.Prelude.{⊤}
use Rattle.ba_kernel.specs.SearchStates as kernel
use Rattle.ba_outside.specs.Seen.{Contents, FilesSeen}
use Rattle.ba_plan.proofs.Causes.{long_file, read_fault}
use Rattle.ba_plan.proofs.Told.{determined, names_front}
use Rattle.ba_plan.specs.Ends.{AsksFront, FailedAt, LongAt, Settles}
use Rattle.ba_plan.specs.Follows.{Follows}
use Rattle.ba_plan.specs.Plan.{Plan, names_of, outcome_of}
use Rattle.ba_plan.specs.declared.stop.Stop.{Stop}
use Rattle.ba_plan.specs.declared.stop.Stop.TheVariants.{Refused, Read, TooLong, NoMemory}
use Rattle.ba_store.specs.declared.fault.StoreFault.{StoreFault}
use Rattle.ba_input.specs.Reading.{Gathered, loading, plan_of, ready}
use Rattle.ba_input.specs.Reads.{Becomes, IsSettled, Loaded, Outcome, Reads, run_with}
use Rattle.ba_input.specs.Refusals.{template_refusal}
use Rattle.ba_input.specs.declared.input.Input.{Input}
use Rattle.ba_input.specs.declared.task.Task.{Task}
use Rattle.ba_input.specs.declared.task.Told.{Told}
use Rattle.ba_wire.specs.declared.fault.Fault.{Fault}

-- ---- why there is no task

-- templates are refused for a fault of their file, or memory ran out
abbrev pub OfTemplates : Stop Fault → Type 0
OfTemplates (Refused it) = (file : List ℕ) × (fault : StoreFault) × (it ≡ template_refusal file fault)
OfTemplates (Read file) = ⊥
OfTemplates (TooLong file limit) = ⊥
OfTemplates NoMemory = ⊤

of_templates : (input : Input) (told : Told) (file bytes : List ℕ) (stop : Stop Fault) (templates : Result (List kernel.Proof) (Stop Fault)) → Loaded input.policy file bytes templates → Err stop ≡ run_with input told templates → OfTemplates stop
of_templates input told file bytes stop (Ok templates) loaded is = absurd (cc)
of_templates input told file bytes stop (Err (Refused it)) (fault, loads, so) is = let same : stop ≡ Refused it = cc in subst OfTemplates (sym same) (file, fault, so)
of_templates input told file bytes stop (Err (Read other)) loaded is = absurd loaded
of_templates input told file bytes stop (Err (TooLong other limit)) loaded is = absurd loaded
of_templates input told file bytes stop (Err NoMemory) loaded is = let same : stop ≡ NoMemory = cc in subst OfTemplates (sym same) tt

-- the plan stopped, or templates did
pub stopped : (plan : Plan Fault Gathered) (f g : FilesSeen) (stop : Stop Fault) (gave : Result Gathered (Stop Fault)) → Follows plan f g gave → Becomes gave (Err stop) → Follows plan f g (Err stop) ⊎ OfTemplates stop
stopped plan f g stop (Err other) follows is = let same : other ≡ stop = cc in inl (subst (λ z. Follows plan f g (Err z)) same follows)
stopped plan f g stop (Ok (ready it)) follows is = absurd (cc)
stopped plan f g stop (Ok (loading input told file bytes)) follows is = inr (of_templates input told file bytes stop is.templates is.loaded is.is)

-- a file that can't be read is the last name asked for, and the count rose
pub reads_failed : (words : List (List ℕ)) (f g : FilesSeen) (file : List ℕ) → Reads words f g (Err (Read file)) → FailedAt file f g
reads_failed words f g file reads = by (stopped (plan_of words) f g (Read file) reads.gave reads.follows reads.becomes)
  where
    by : Follows (plan_of words) f g (Err (Read file)) ⊎ OfTemplates (Read file) → FailedAt file f g
    by (inl follows) = read_fault (plan_of words) f g file follows
    by (inr never) = absurd never

-- one that is too long is too, and passes the limit
pub reads_long : (words : List (List ℕ)) (f g : FilesSeen) (file : List ℕ) (limit : ℕ) → Reads words f g (Err (TooLong file limit)) → LongAt file limit f g
reads_long words f g file limit reads = by (stopped (plan_of words) f g (TooLong file limit) reads.gave reads.follows reads.becomes)
  where
    by : Follows (plan_of words) f g (Err (TooLong file limit)) ⊎ OfTemplates (TooLong file limit) → LongAt file limit f g
    by (inl follows) = long_file (plan_of words) f g file limit follows
    by (inr never) = absurd never

-- ---- where the contents are told

-- the names asked for are the first of the words' names
pub reads_front : (contents : Contents) (words : List (List ℕ)) (f g : FilesSeen) (r : Result Task (Stop Fault)) → f.held ≡ Some contents → Reads words f g r → AsksFront f.asked g.asked (names_of contents (plan_of words))
reads_front contents words f g r told reads = names_front contents (plan_of words) f g reads.gave told reads.follows

settled_as : (r : Result Task (Stop Fault)) (Whole : Result Task (Stop Fault) → Type 0) → Whole r → IsSettled r Whole
settled_as (Ok it) Whole is = is
settled_as (Err (Refused it)) Whole is = is
settled_as (Err (TooLong file limit)) Whole is = is
settled_as (Err (Read file)) Whole is = tt
settled_as (Err NoMemory) Whole is = tt

settled_by : (r : Result Task (Stop Fault)) (gave whole : Result Gathered (Stop Fault)) → Settles gave whole → Becomes gave r → IsSettled r (Becomes whole)
settled_by r (Ok it) whole e is = settled_as r (Becomes whole) (subst (λ z. Becomes z r) (sym e) is)
settled_by r (Err (Refused it)) whole e is = settled_as r (Becomes whole) (subst (λ z. Becomes z r) (sym e) is)
settled_by r (Err (TooLong file limit)) whole e is = settled_as r (Becomes whole) (subst (λ z. Becomes z r) (sym e) is)
settled_by r (Err (Read file)) whole e is = subst (λ z. IsSettled z (Becomes whole)) (sym is) tt
settled_by r (Err NoMemory) whole e is = subst (λ z. IsSettled z (Becomes whole)) (sym is) tt

-- an answer that is neither a read fault nor want of memory is what the words come to
pub reads_settled : (contents : Contents) (words : List (List ℕ)) (f g : FilesSeen) (r : Result Task (Stop Fault)) → f.held ≡ Some contents → Reads words f g r → IsSettled r (Outcome contents words)
reads_settled contents words f g r told reads = settled_by r reads.gave (outcome_of contents (plan_of words)) (determined contents (plan_of words) f g reads.gave told reads.follows) reads.becomes
