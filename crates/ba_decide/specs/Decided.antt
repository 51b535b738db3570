-- What the service does of its words, and with which status it ends.
use Rattle.std.specs.Prelude.{◌≡◌, ◌⊎◌, ℕ, List, [], ◌∷◌, Option, Some, None, Result, Ok, Err}
use Rattle.ba_input.specs.Deciding.{IsPolicyInput, ReadsPolicy}
use Rattle.ba_input.specs.Stops.{fault_of}
use Rattle.ba_input.specs.declared.deciding.PolicyInput.{PolicyInput}
use Rattle.ba_judge.specs.Judging.{effort_in}
use Rattle.ba_live.specs.Wellformed.{IsFresh}
use Rattle.ba_live.specs.declared.live.Live.{Live}
use Rattle.ba_outside.specs.Seen.{FilesSeen, SinkSeen}
use Rattle.ba_outside.specs.declared.sink.WriteFail.TheVariants as fail
use Rattle.ba_plan.specs.Sent.{SentLines, WroteLines}
use Rattle.ba_plan.specs.declared.stop.Stop.{Stop}
use Rattle.ba_source.specs.Seen.{SourceSeen}
use Rattle.ba_wire.specs.Printed.{fault_bytes}
use Rattle.ba_wire.specs.declared.fault.Fault.{Fault}
use Rattle.ba_wire.specs.declared.fault.Fault.TheVariants.{Words, Input, Read, Limit}
use Rattle.ba_decide.specs.Ran.{Served}
use Rattle.ba_decide.specs.Told.{Headline}
use Rattle.ba_decide.specs.declared.top.Ending.{Ending}
use Rattle.ba_decide.specs.declared.top.Ending.TheVariants as ending

abbrev pub status_of : Ending → ℕ
status_of ending.Done = 0
status_of (ending.Fault Words) = 2
status_of (ending.Fault (Input file reason)) = 3
status_of (ending.Fault (Read file)) = 4
status_of (ending.Fault (Limit what limit)) = 7
status_of ending.Read = 4
status_of ending.Write = 5
status_of ending.Memory = 6

-- the line of the fault was written, and it ends so; or it couldn't be written whole
abbrev pub EndsFault : Fault → Ending → SinkSeen → SinkSeen → Type 0
EndsFault fault (ending.Fault it) old new =
    (it ≡ fault) × WroteLines (fault_bytes fault ∷ []) old new
EndsFault fault ending.Write old new =
    SentLines {X = Unit {0}} (fault_bytes fault ∷ []) old new (Err fail.Failed)
EndsFault fault ending.Memory old new =
    SentLines {X = Unit {0}} (fault_bytes fault ∷ []) old new (Err fail.NoMemory)
EndsFault fault ending.Done old new = ⊥
EndsFault fault ending.Read old new = ⊥

abbrev pub EndsTold : Option Fault → Ending → SinkSeen → SinkSeen → Type 0
EndsTold None how old new = (how ≡ ending.Memory) × (new ≡ old)
EndsTold (Some fault) how old new = EndsFault fault how old new

-- what the reading's stop is told as
abbrev pub EndsStop : Stop Fault → Ending → SinkSeen → SinkSeen → Type 0
EndsStop stop how old new = EndsTold (fault_of stop) how old new

-- A service of the policy in which nothing is open served the lines; what it decided is safe.
pub record Serves (input : PolicyInput) (how : Ending) (source left : SourceSeen)
    (old new : SinkSeen) : Type 0 where
  pub start : Live
  pub fresh : IsFresh input.policy input.target input.loaded input.budget start
  pub served : Served input.evidence (effort_in 1 input.budget) start how source left old new
  pub headline : Headline input.policy input.target (effort_in 1 input.budget) served.journal

-- there was no memory to begin
pub record Lacks (how : Ending) (source left : SourceSeen) (old new : SinkSeen) : Type 0 where
  pub how_is : how ≡ ending.Memory
  pub source_is : left ≡ source
  pub sink_is : new ≡ old

abbrev pub ServesInput : PolicyInput → Ending → SourceSeen → SourceSeen → SinkSeen → SinkSeen
    → Type 0
ServesInput input how source left old new =
    Serves input how source left old new ⊎ Lacks how source left old new

abbrev pub GoesOn : Result PolicyInput (Stop Fault) → Ending → SourceSeen → SourceSeen → SinkSeen
    → SinkSeen → Type 0
GoesOn (Ok input) how source left old new =
    IsPolicyInput input × ServesInput input how source left old new
GoesOn (Err stop) how source left old new = EndsStop stop how old new × (left ≡ source)

-- The words and the files are read first; where they have a fault, no line is taken.
pub record Decides (words : List (List ℕ)) (before after : FilesSeen) (how : Ending)
    (source left : SourceSeen) (old new : SinkSeen) : Type 0 where
  pub input : Result PolicyInput (Stop Fault)
  pub reads : ReadsPolicy words before after input
  pub goes_on : GoesOn input how source left old new
