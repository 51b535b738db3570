-- What is known between the lines of a script.
use mathlib.Core.List.{IsPrefix}
use Rattle.std.specs.Prelude.{◌≡◌, ◌⊎◌, ℕ, ◌+◌, ◌*◌, ◌%◌, ◌<◌, ◌≤◌, List, [], ◌∷◌, ◌++◌, Bool, true, false, Option, Some, None, count_by, length, map, sum_by, slice_get, slice_set, vec_capacity}
use Rattle.ba_cache.specs.Passes.{known_on}
use Rattle.ba_input.specs.Inputs.{IsInput, effort_of}
use Rattle.ba_input.specs.declared.input.Input.{Input}
use Rattle.ba_model.specs.Fit.{ContextFits, kinds_of}
use Rattle.ba_model.specs.Limits.{shard_count}
use Rattle.ba_model.specs.declared.policy.CacheKey.{CacheKey}
use Rattle.ba_model.specs.declared.policy.Context.{Context}
use Rattle.ba_script.specs.Scripts.{ReadFits}
use Rattle.ba_script.specs.declared.entry.ScriptEntry.{ScriptEntry}
use Rattle.ba_script.specs.declared.entry.ScriptEntry.TheVariants as said
use Rattle.ba_session.specs.Asking.{IsRequestOf, IsBegun, Replies, answer_in}
use Rattle.ba_session.specs.KeyReads.{KeyReads, LetsThrough}
use Rattle.ba_keys.specs.Literals.{key_queries}
use Rattle.ba_session.specs.Passing.{AreOf, HasRoom, MakesCalls, ShelfCalls}
use Rattle.ba_session.specs.declared.reply.KeyReply.{KeyReply}
use Rattle.ba_session.specs.declared.reply.Reply.{Reply}
use Rattle.ba_session.specs.declared.request.Request.{Request}
use Rattle.ba_session.specs.declared.service.Passes.{Passes}
use Rattle.ba_session.specs.declared.service.Service.{Service}
use Rattle.ba_lanes.specs.Lanes.{HasJoined, HasSplit, SeesFirst, lines_of, total}
use Rattle.ba_lanes.specs.Legal.{AreLoads, AreServed, HasContext, IsLost, IsPublish, IsRequest, IsUnbegun, IsUnserved, LineCalls, LineDone, Load, admits_on, asked, begins, context_in, contexts_of, lane_of, made_on, no_calls, on_each, on_shelves, read_as, trace_of, versions_made}
use Rattle.ba_lanes.specs.declared.lane.Lane.{Lane}
use Rattle.ba_lanes.specs.declared.share.Share.{Share}
use Rattle.ba_lanes.specs.declared.journal.Entry.{Entry}
use Rattle.ba_lanes.specs.declared.journal.Entry.TheVariants.{End}
use Rattle.ba_lanes.specs.declared.journal.LineKind.{LineKind}
use Rattle.ba_lanes.specs.declared.journal.LineKind.TheVariants as kinds
use Rattle.ba_turn.specs.Knowing.{SumsToAllowance}
use Rattle.ba_turn.specs.Passes.{known_by}
use Rattle.ba_turn.specs.declared.known.Known.{Known}

-- ---- how many calls lines may make

-- the line makes a call on the versions
unfoldable pub calls_versions : ScriptEntry → Bool
calls_versions (said.Begin request name context) = true
calls_versions (said.Ask request name text) = false
calls_versions (said.Read request name key arguments questions) = false
calls_versions (said.End request name) = false
calls_versions (said.Publish number set) = true

-- how many queries the line judges at most
unfoldable pub questions_of : ScriptEntry → ℕ
questions_of (said.Begin request name context) = 0
questions_of (said.Ask request name text) = 1
questions_of (said.Read request name key arguments questions) = questions
questions_of (said.End request name) = 0
questions_of (said.Publish number set) = 0

-- on the versions, and on a shelf: a look and an admit for each query that is judged
abbrev pub version_calls : List ScriptEntry → ℕ
version_calls lines = count_by calls_versions lines

abbrev pub shelf_calls : List ScriptEntry → ℕ
shelf_calls lines = 2 * sum_by questions_of lines

-- the passes have what these lines may take
pub record CanServe (lines : List ScriptEntry) (p : Passes) : Type 0 where
  pub versions : version_calls lines ≤ (known_by p.versions).left
  pub shelves : HasRoom (shelf_calls lines) p

-- the calls of lines take the passes from old to new
pub record MakesAll (served : List LineDone) (old new : Passes) : Type 0 where
  pub versions :
      MakesCalls (known_by old.versions) (known_by new.versions) (versions_made served)
  pub shelves : (k : ℕ) → k < shard_count →
      MakesCalls (known_on old.cache k) (known_on new.cache k) (made_on k served)

-- ---- requests

-- the request as it stands after earlier lines, which may ask
pub record IsStanding (input : Input) (earlier : List LineDone) (number : ℕ) (asker : Request)
    : Type 0 where
  pub asks : IsRequest input earlier number asker
  pub may : IsRequestOf input.policy asker

-- a place of the requests, by their numbers, after earlier lines of the lane k: the request, or
-- that it is lost, or one of another lane
abbrev pub StandsIn : Input → ℕ → List LineDone → ℕ → Option Request → Type 0
StandsIn input k earlier number (Some asker) = IsStanding input earlier number asker
StandsIn input k earlier number None = number % input.workers ≡ k → IsLost earlier number

-- The requests that have begun, so many, as they stand after earlier lines of the lane k; those
-- lines are of no other request.
pub record Stand (input : Input) (k begun : ℕ) (earlier : List LineDone)
    (requests : List (Option Request)) : Type 0 where
  pub many : length requests ≡ begun
  pub places : (number : ℕ) (it : Option Request) → slice_get requests number ≡ Some it →
      StandsIn input k earlier number it
  pub untold : (number : ℕ) → begun ≤ number → trace_of number earlier ≡ []
  pub unbegun : (number : ℕ) → begun ≤ number → IsLost earlier number

-- each request may ask
pub record AreAskers (input : Input) (requests : List (Option Request)) : Type 0 where
  pub each : (number : ℕ) (asker : Request) → slice_get requests number ≡ Some (Some asker) →
      IsRequestOf input.policy asker

-- the next request begins, over a version that it pins
pub record Begins (input : Input) (requests : List (Option Request)) (request : ℕ)
    (context : Context) (it : LineDone) (later : List (Option Request)) : Type 0 where
  pub asker : Request
  pub is : it ≡ begins request asker.version asker.tables
  pub begun : IsBegun context asker
  pub may : IsRequestOf input.policy asker
  pub later_is : later ≡ requests ++ Some asker ∷ []

-- the request as it stands after a reply
abbrev pub told : Request → Reply → Request
told asker reply = record asker { trace = asker.trace ++ answer_in reply }

-- a question gets a reply, and its request alone changes, by the answer
pub record Asks (input : Input) (requests : List (Option Request)) (request : ℕ) (text : List ℕ)
    (it : LineDone) (later : List (Option Request)) : Type 0 where
  pub asker : Request
  pub there : slice_get requests request ≡ Some (Some asker)
  pub reply : Reply
  pub calls : ShelfCalls
  pub replies : Replies input.policy asker (effort_of input) text calls reply
  pub is : it ≡ record { entry = asked request asker.version reply; made = on_shelves calls }
  pub may : IsRequestOf input.policy (told asker reply)
  pub later_is : later ≡ slice_set requests request (Some (told asker reply))

-- a read gets a reply, and no request changes
pub record Reads (input : Input) (requests : List (Option Request)) (request number : ℕ)
    (arguments : Context) (it : LineDone) : Type 0 where
  pub asker : Request
  pub there : slice_get requests request ≡ Some (Some asker)
  pub key : CacheKey
  pub key_is : slice_get input.policy.keys number ≡ Some key
  pub reply : KeyReply
  pub calls : List ShelfCalls
  pub reads : KeyReads input.policy asker (effort_of input)
      (key_queries input.policy key arguments) calls reply
  pub through : LetsThrough input.policy asker reply
  pub is : it ≡ record { entry = read_as request asker.version number reply; made = on_each calls }

-- the request, which has begun, ends
pub record Ends (requests : List (Option Request)) (request : ℕ) (it : LineDone) : Type 0 where
  pub asker : Request
  pub there : slice_get requests request ≡ Some (Some asker)
  pub is : it ≡ record { entry = End request asker.version; made = no_calls }

-- a line of this kind is of a request that is lost, and makes no call
pub record FindsLost (requests : List (Option Request)) (kind : LineKind) (request : ℕ)
    (it : LineDone) : Type 0 where
  pub there : slice_get requests request ≡ Some None
  pub unserved : IsUnserved kind (Some request) it

abbrev pub EndsOrLost : List (Option Request) → ℕ → LineDone → Type 0
EndsOrLost requests request it = Ends requests request it ⊎ FindsLost requests kinds.End request it

-- what becomes of a line, and of the requests
abbrev pub Does : Input → List (Option Request) → ScriptEntry → LineDone
    → List (Option Request) → Type 0
Does input requests (said.Begin request name context) it later =
    Begins input requests request context it later ⊎
    (IsUnbegun request it × (later ≡ requests ++ None ∷ []))
Does input requests (said.Ask request name text) it later =
    Asks input requests request text it later ⊎
    (FindsLost requests kinds.Ask request it × (later ≡ requests))
Does input requests (said.Read request name key arguments questions) it later =
    (Reads input requests request key arguments it ⊎ FindsLost requests kinds.Read request it) ×
    (later ≡ requests)
Does input requests (said.End request name) it later =
    EndsOrLost requests request it × (later ≡ requests)
Does input requests (said.Publish number set) it later =
    (IsPublish input number it ⊎ IsUnserved kinds.Publish None it) × (later ≡ requests)

-- The line comes after so many begin lines: it begins the next request, or is of one that has
-- begun; or its table set is there.
abbrev pub Comes : Input → ℕ → ScriptEntry → Type 0
Comes input begun (said.Begin request name context) =
    (request ≡ begun) × ContextFits (kinds_of input.policy.params) context ×
    HasContext input.script request context
Comes input begun (said.Ask request name text) = request < begun
Comes input begun (said.Read request name key arguments questions) =
    (request < begun) ×
    ReadFits input.policy.keys (said.Read request name key arguments questions)
Comes input begun (said.End request name) = request < begun
Comes input begun (said.Publish number set) = number < length input.published

-- ---- a lane

-- a lane with these requests can serve the line
pub record CanTake (input : Input) (service : Service) (line : ScriptEntry) (lane : Lane)
    : Type 0 where
  pub comes : Comes input (length lane.requests.items) line
  pub askers : AreAskers input lane.requests.items
  pub of : AreOf service lane.passes
  pub can : CanServe (line ∷ []) lane.passes
  pub room : length lane.requests.items + length (context_in line) ≤ vec_capacity lane.requests

-- what a lane does with a line that is another's: the place of a request that begins there stays
-- empty
pub record PassesOver (line : ScriptEntry) (old new : Lane) : Type 0 where
  pub requests : new.requests.items ≡ old.requests.items ++ map (λ context. None) (context_in line)
  pub room : vec_capacity new.requests ≡ vec_capacity old.requests
  pub passes : new.passes ≡ old.passes
  pub entries : new.entries ≡ old.entries

-- what a lane does with a line
pub record Takes (input : Input) (service : Service) (line : ScriptEntry) (entry : Entry)
    (old new : Lane) : Type 0 where
  pub made : LineCalls
  pub does : Does input old.requests.items line (record { entry = entry; made = made })
      new.requests.items
  pub makes : MakesAll (record { entry = entry; made = made } ∷ []) old.passes new.passes
  pub of : AreOf service new.passes
  pub entries : new.entries ≡ old.entries
  pub room : vec_capacity new.requests ≡ vec_capacity old.requests

-- the lines of the lane k among these
abbrev pub lines_in : Input → ℕ → List ScriptEntry → List ScriptEntry
lines_in input k lines = lines_of (lane_of input.workers) k lines

-- What the lane k has done after the first lines of the script: its own are served, its passes made
-- their calls, and its requests stand.
pub record HasServed (input : Input) (service : Service) (first : Passes) (k : ℕ)
    (lines : List ScriptEntry) (lane : Lane) : Type 0 where
  pub served : List LineDone
  pub entries : lane.entries.items ≡ map (λ it. it.entry) served
  pub lines_are : AreServed input [] (lines_in input k lines) served
  pub makes : MakesAll served first lane.passes
  pub of : AreOf service lane.passes
  pub stand : Stand input k (length (contexts_of lines)) served lane.requests.items

-- ---- all lanes

-- a pass that has made no call, with the number of the lane k
pub record IsUnused {S E : Type 0} (k : ℕ) (v : Known S E) : Type 0 where
  pub number : v.number ≡ k + 1
  pub made : v.made ≡ []

-- the passes of the lane k, before its first line
pub record AreUnused (k : ℕ) (p : Passes) : Type 0 where
  pub versions : IsUnused k (known_by p.versions)
  pub shelves : (i : ℕ) → i < shard_count → IsUnused k (known_on p.cache i)

-- the lane k has what its lines may take, and has served none
pub record IsReady (input : Input) (service : Service) (k : ℕ) (lane : Lane) : Type 0 where
  pub input_fits : IsInput input
  pub policy : service.policy ≡ input.policy
  pub of : AreOf service lane.passes
  pub unused : AreUnused k lane.passes
  pub can : CanServe (lines_in input k input.script.entries) lane.passes
  pub requests : (lane.requests.items ≡ []) ×
      (length (contexts_of input.script.entries) ≤ vec_capacity lane.requests)
  pub entries : (lane.entries.items ≡ []) ×
      (length (lines_in input k input.script.entries) ≤ vec_capacity lane.entries)

-- a pass with the number of the lane k, which made these calls
pub record HasMade {S E : Type 0} (k : ℕ) (calls : List E) (v : Known S E) : Type 0 where
  pub number : v.number ≡ k + 1
  pub made : v.made ≡ calls

-- what became of the lines of the lane k: its entries, and the calls of its passes
pub record HasDone (input : Input) (service : Service) (k : ℕ) (served : List LineDone)
    (lane : Lane) : Type 0 where
  pub entries : lane.entries.items ≡ map (λ it. it.entry) served
  pub lines_are : AreServed input [] (lines_in input k input.script.entries) served
  pub of : AreOf service lane.passes
  pub versions : HasMade k (versions_made served) (known_by lane.passes.versions)
  pub shelves : (i : ℕ) → i < shard_count →
      HasMade k (made_on i served) (known_on lane.passes.cache i)

-- the lane k has served its lines
pub record IsDone (input : Input) (service : Service) (k : ℕ) (lane : Lane) : Type 0 where
  pub served : List LineDone
  pub has : HasDone input service k served lane

-- how many lines there are, and how many calls they may make on the versions and on a shelf
pub record IsShare (lines : List ScriptEntry) (share : Share) : Type 0 where
  pub lines_are : share.lines ≡ length lines
  pub calls_are : share.calls ≡ version_calls lines
  pub looks_are : share.looks ≡ shelf_calls lines

-- ---- the opening passes

-- the passes that the service was made with, once they have admitted the loaded templates, with
-- these answers, and then split off those of so many lanes
pub record HaveSplit (loads : List Load) (splits : ℕ) (p : Passes) : Type 0 where
  pub versions : HasSplit [] splits (known_by p.versions)
  pub shelves : (i : ℕ) → i < shard_count →
      HasSplit (admits_on i loads) splits (known_on p.cache i)

-- Of the allowances for all lines and all loaded templates, what is left once these are admitted
-- and the first lanes, so many, have theirs.
pub record HasLeft (input : Input) (loads : List Load) (lanes : ℕ) (p : Passes) : Type 0 where
  pub versions :
      total (λ k. version_calls (lines_in input k input.script.entries)) lanes +
      (known_by p.versions).left ≡ version_calls input.script.entries
  pub shelves : (i : ℕ) → i < shard_count →
      total (λ k. shelf_calls (lines_in input k input.script.entries)) lanes +
      (known_on p.cache i).left + length (admits_on i loads) ≡
      shelf_calls input.script.entries + length input.loaded

-- the same passes, which have admitted the input's templates, with these answers, and have given
-- the first lanes, so many, theirs
pub record HaveDealt (input : Input) (loads : List Load) (lanes : ℕ) (p : Passes) : Type 0 where
  pub loaded : AreLoads input loads
  pub split : HaveSplit loads lanes p
  pub left : HasLeft input loads lanes p

-- The passes have seen on each shelf the admits of the loaded templates in front of all other
-- calls.
pub record SeeLoads (loads : List Load) (p : Passes) : Type 0 where
  pub shelves : (i : ℕ) → i < shard_count → SeesFirst (admits_on i loads) (known_on p.cache i)

-- the new passes have seen on each shelf what the old ones had seen, and more
pub record SeeMore (old new : Passes) : Type 0 where
  pub shelves : (i : ℕ) → i < shard_count →
      IsPrefix (known_on old.cache i).seen (known_on new.cache i).seen

-- where these passes have joined what they split off, what is left and what was called sum to each
-- allowance
pub record SumUp (p : Passes) : Type 0 where
  pub versions : SumsToAllowance (known_by p.versions)
  pub shelves : (i : ℕ) → i < shard_count → SumsToAllowance (known_on p.cache i)

-- The passes of the service as it was made, which admitted the loaded templates, with these
-- answers, once they have split off those of so many lanes, and have joined those of the first
-- lanes, so many, which did this.
pub record HaveJoined (loads : List Load) (splits joined : ℕ) (done : ℕ → List LineDone)
    (p : Passes) : Type 0 where
  pub versions : HasJoined [] splits joined (λ k. versions_made (done k)) (known_by p.versions)
  pub shelves : (i : ℕ) → i < shard_count →
      HasJoined (admits_on i loads) splits joined (λ k. made_on i (done k)) (known_on p.cache i)
