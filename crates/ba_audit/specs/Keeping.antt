-- What an audit keeps between lines, and what its parts tell.
use Rattle.std.specs.Prelude.{◌≡◌, ℕ, ◌+◌, ◌∷◌, ◌++◌, [], List, All, Option, Some, None, Result, Ok, Err, Bool, count_by, drop, length, map}
use Rattle.std.specs.BTreeMap.{get}
use Rattle.std.specs.Option.{option_to_list}
use Rattle.std.specs.Ordering.{nat_cmp}
use Rattle.ba_comply.specs.declared.trace.TraceEntry.{TraceEntry}
use Rattle.ba_kernel.specs.Asked.{RecordFits}
use Rattle.ba_model.specs.Conform.{Conforms}
use Rattle.ba_model.specs.Fit.{ContextFits, kinds_of}
use Rattle.ba_model.specs.declared.policy.CacheKey.{CacheKey}
use Rattle.ba_model.specs.declared.policy.Context.{Context}
use Rattle.ba_model.specs.declared.policy.Policy.{Policy}
use Rattle.ba_model.specs.declared.failure.Failure.{Failure}
use Rattle.ba_model.specs.declared.failure.Failure.TheVariants.{NoMemory, Fault}
use Rattle.ba_script.specs.declared.entry.Script.{Script}
use Rattle.ba_script.specs.declared.entry.ScriptEntry.{ScriptEntry}
use Rattle.ba_script.specs.declared.entry.ScriptEntry.TheVariants as said
use Rattle.ba_printed.specs.declared.line.PrintedLine.{PrintedLine}
use Rattle.ba_printed.specs.declared.line.PrintedLine.TheVariants as printed
use Rattle.ba_printed.specs.Reading.{printed_of}
use Rattle.ba_wire.specs.declared.summary.Summary.{Summary}
use Rattle.ba_audit.specs.Audits.{AllPass, AllShow, FailsAt, IsAudited, IsFirstFault, IsInput, IsSound, ShowsEntry, Output, basis_of, feeds, output_of, places, readings, unaudited_of}
use Rattle.ba_audit.specs.Lines.{Basis, Line, Reading, entry, is_unaudited, key_at, line_at, numbered_at, request_after, request_by, said_by, summary_of, told_by, unaudited_in, used_in}
use Rattle.ba_audit.specs.Tests.{IsFirstUnmet, MeetsAll, MeetsForm, MeetsSaid, MeetsTotal, request_in}
use Rattle.ba_audit.specs.declared.against.Against.{Against}
use Rattle.ba_audit.specs.declared.heard.Heard.{Heard}
use Rattle.ba_audit.specs.declared.heard.Heard.TheVariants.{Unmet, Met}
use Rattle.ba_wire.specs.declared.audit.AuditFault.{AuditFault}
use Rattle.ba_wire.specs.declared.audit.AuditFault.TheVariants.{At}
use Rattle.ba_wire.specs.declared.audit.AuditReason.{AuditReason as Reason}
use Rattle.ba_wire.specs.declared.audit.AuditReason.TheVariants.{Count}
use Rattle.ba_audit.specs.declared.request.Asker.{Asker}
use Rattle.ba_audit.specs.declared.request.Begun.{Begun}
use Rattle.ba_audit.specs.declared.request.Begun.TheVariants.{Silent, Asking}
use Rattle.ba_audit.specs.declared.told.Told.{Told}

-- what the parts of an audit are lent
abbrev pub basis_at : Against → Basis
basis_at it = record { policy = it.policy.now; sets = it.sets.now; numbered = it.numbered.now }

abbrev pub output_at : Against → Script → List ℕ → Output
output_at it script bytes = output_of it.policy.now it.sets.now script bytes

-- the line's number with the test that it doesn't meet
unfoldable pub located_at : {T : Type 0} → ℕ → Result T (Failure Reason) → Result T (Failure AuditFault)
located_at number (Ok x) = Ok x
located_at number (Err NoMemory) = Err NoMemory
located_at number (Err (Fault reason)) = Err (Fault (At number reason))

-- what was told of the last line, where these are left behind it
abbrev pub after_last : {T : Type 0} → ℕ → Result T (Failure AuditFault) → List (List ℕ) → Result T (Failure AuditFault)
after_last number (Ok x) [] = Ok x
after_last number (Ok x) (line ∷ lines) = Err (Fault (At (number + 1) Count))
after_last number (Err failure) lines = Err failure

-- ---- requests

-- what is known of the request of the number
abbrev pub known_in : Told → Option ℕ → Option Begun
known_in told None = None
known_in told (Some k) = get nat_cmp told.requests k

-- the context, the tables and the answers of the request are of the policy
pub record AskerFits (policy : Policy) (asker : Asker) : Type 0 where
  pub context : ContextFits (kinds_of policy.params) asker.context
  pub conform : Conforms policy.schema asker.tables.rows
  pub trace : All (RecordFits policy) asker.trace

abbrev pub BegunFits : Policy → Option Begun → Type 0
BegunFits policy None = Unit {0}
BegunFits policy (Some Silent) = Unit {0}
BegunFits policy (Some (Asking asker)) = AskerFits policy asker

-- ---- what is kept

-- what is kept is what the lines before tell
pub record Tracks (basis : Basis) (before : List Line) (told : Told) : Type 0 where
  pub requests : (k : ℕ) → get nat_cmp told.requests k ≡ request_after basis k before
  pub fit : (k : ℕ) → BegunFits basis.policy (get nat_cmp told.requests k)
  pub used : told.used.items ≡ used_in before
  pub summary : told.summary ≡ summary_of before
  pub unaudited : told.unaudited ≡ unaudited_in before

-- the requests and the numbers of sets follow one more line
pub record Moves (basis : Basis) (e : ScriptEntry) (reading : Reading) (old new : Told) : Type 0 where
  pub requests : (k : ℕ) → get nat_cmp new.requests k ≡ request_by basis k (get nat_cmp old.requests k) e reading
  pub used : new.used.items ≡ old.used.items ++ numbered_at e reading
  pub summary : new.summary ≡ old.summary
  pub unaudited : new.unaudited ≡ old.unaudited

-- what is counted follows it, and nothing else changes
pub record Counts (e : ScriptEntry) (reading : Reading) (old new : Told) : Type 0 where
  pub requests : new.requests ≡ old.requests
  pub used : new.used ≡ old.used
  pub summary : (before : List Line) → old.summary ≡ summary_of before →
      new.summary ≡ summary_of (before ++ line_at (entry e) reading ∷ [])
  pub unaudited : new.unaudited ≡ old.unaudited + count_by is_unaudited (said_by reading)

-- ---- what is heard

-- what a line adds to the trace of its request
unfoldable pub told_at : Policy → ScriptEntry → Reading → List TraceEntry
told_at policy (said.Begin request name context) reading = []
told_at policy (said.Ask request name text) reading = told_by policy text reading
told_at policy (said.Read request name key arguments questions) reading = []
told_at policy (said.End request name) reading = []
told_at policy (said.Publish number set) reading = []

-- the first test that isn't met, or that all are, with what is added to the trace and what is shown
abbrev pub TellsHeard : (Reason → Type 0) → List TraceEntry → Type 0 → Heard → Type 0
TellsHeard Meets told Shows (Unmet reason) = IsFirstUnmet Meets reason
TellsHeard Meets told Shows (Met added) = MeetsAll Meets × (option_to_list added ≡ told) × Shows

-- the key of this number is there, and these are values of its arguments
pub record IsReadOf (policy : Policy) (number : ℕ) (arguments : Context) : Type 0 where
  pub key : CacheKey
  pub is : key_at policy number ≡ Some key
  pub fits : ContextFits (kinds_of key.arguments) arguments

-- what is added may be recorded
abbrev pub AddsFitting : Policy → Heard → Type 0
AddsFitting policy (Unmet reason) = Unit {0}
AddsFitting policy (Met added) = All (RecordFits policy) (option_to_list added)

-- ---- one line

-- what each test asks of the line of an entry, by what is kept
abbrev pub MeetsKept : Basis → ℕ → Told → ScriptEntry → Reading → Reason → Type 0
MeetsKept basis number told e (Ok line) reason =
    MeetsSaid basis number told.used.items (known_in told (request_in e)) e line reason
MeetsKept basis number told e (Err why) reason = Unit {0}

abbrev pub MeetsTaken : Basis → Bool → ℕ → Told → ScriptEntry → Reading → Reason → Type 0
MeetsTaken basis ended number told e reading reason =
    MeetsForm ended reading reason × MeetsKept basis number told e reading reason

-- what it shows, by what is kept
abbrev pub ShowsKept : Policy → Told → ScriptEntry → Reading → Type 0
ShowsKept policy told e (Ok line) = ShowsEntry policy (known_in told (request_in e)) e line
ShowsKept policy told e (Err why) = ⊥

-- the line of an entry that is read meets each test behind its form, and what is kept follows it
pub record TakesRead (basis : Basis) (number : ℕ) (e : ScriptEntry) (line : PrintedLine) (old new : Told) : Type 0 where
  pub meets : MeetsAll (MeetsKept basis number old e (Ok line))
  pub fitting : All (RecordFits basis.policy) (told_at basis.policy e (Ok line))
  pub shows : ShowsKept basis.policy old e (Ok line)
  pub between : Told
  pub moves : Moves basis e (Ok line) old between
  pub counts : Counts e (Ok line) between new

-- the line of an entry meets each test, and what is kept follows it
pub record Takes (basis : Basis) (ended : Bool) (number : ℕ) (e : ScriptEntry) (reading : Reading) (old new : Told) : Type 0 where
  pub meets : MeetsAll (MeetsTaken basis ended number old e reading)
  pub fitting : All (RecordFits basis.policy) (told_at basis.policy e reading)
  pub shows : ShowsKept basis.policy old e reading
  pub between : Told
  pub moves : Moves basis e reading old between
  pub counts : Counts e reading between new

-- what each test asks of the last line, by what is counted
abbrev pub MeetsCounted : Summary → Reading → Reason → Type 0
MeetsCounted counted (Ok line) reason = MeetsTotal counted line reason
MeetsCounted counted (Err why) reason = Unit {0}

abbrev pub MeetsLast : Bool → Summary → Reading → Reason → Type 0
MeetsLast ended counted reading reason = MeetsForm ended reading reason × MeetsCounted counted reading reason

unfoldable pub IsSummary : PrintedLine → Type 0
IsSummary (printed.Summary summary) = Unit {0}
IsSummary line = ⊥

-- it meets each test, and is a summary
pub record IsLast (ended : Bool) (counted : Summary) (reading : Reading) : Type 0 where
  pub summary : Summary
  pub is : reading ≡ Ok (printed.Summary summary)
  pub meets : MeetsAll (MeetsLast ended counted reading)

-- ---- all lines

-- the output's basis, line feeds and script, which fit
pub record IsOf (it : Output) (against : Against) (ended : ℕ) (script : List ScriptEntry) : Type 0 where
  pub basis : basis_of it ≡ basis_at against
  pub ended_is : ended ≡ feeds it.bytes
  pub script_is : it.script ≡ script
  pub input : IsInput it.policy it.sets it.script

-- So many lines passed, these are left, and this is kept: the output passes where what is left does,
-- and its first fault is the first of what is left.
pub record Reached (it : Output) (n : ℕ) (left : List (List ℕ)) (told : Told) : Type 0 where
  pub before : List Line
  pub tracks : Tracks (basis_of it) before told
  pub count : length before ≡ n
  pub passes : AllPass (basis_of it) (feeds it.bytes) before (places (drop n it.script)) (map (printed_of it.policy) left) → IsAudited it
  pub fails : (m : ℕ) (reason : Reason) → FailsAt (basis_of it) (feeds it.bytes) before (places (drop n it.script)) (map (printed_of it.policy) left) m reason → IsFirstFault it m reason
  pub shows : AllShow (basis_of it) before (places (drop n it.script)) (map (printed_of it.policy) left) → IsSound it
  pub unaudited : unaudited_in before + unaudited_of (map (printed_of it.policy) left) ≡ unaudited_of (readings it.policy it.bytes)

-- the last line is taken, and no line is left
pub record IsEnded (it : Output) (told : Told) : Type 0 where
  pub audited : IsAudited it
  pub sound : IsSound it
  pub unaudited : told.unaudited ≡ unaudited_of (readings it.policy it.bytes)
