-- What a run does with its input.
use Rattle.std.specs.Prelude.{◌≡◌, ◌⊎◌, ◌<◌, ◌==◌, ◌%◌, ℕ, List, [], ◌∷◌, Bool, true, false, if◌then◌else◌, Contains, Option, Some, None, length, map, slice_get, slice_index_or}
use Rattle.std.specs.List.{flat_map, list_any}
use Rattle.ba_cache.specs.Passes.{ClosedShelf}
use Rattle.ba_cache.specs.Reads as shelf
use Rattle.ba_cache.specs.Rows as shelves
use Rattle.ba_cache.specs.Rows.{shape_of_template, templates_in}
use Rattle.ba_cache.specs.declared.call.Admit.{Admit as Answer}
use Rattle.ba_cache.specs.declared.call.ShelfCall.{ShelfCall}
use Rattle.ba_cache.specs.declared.call.ShelfCall.TheVariants.{Admit}
use Rattle.ba_comply.specs.declared.trace.TraceEntry.{TraceEntry}
use Rattle.ba_input.specs.Inputs.{IsInput, effort_of}
use Rattle.ba_input.specs.declared.input.Input.{Input}
use Rattle.ba_kernel.specs.SearchStates as kernel
use Rattle.ba_model.specs.Limits.{shard_count}
use Rattle.ba_model.specs.declared.policy.CacheKey.{CacheKey}
use Rattle.ba_model.specs.declared.policy.Context.{Context}
use Rattle.ba_script.specs.declared.entry.Script.{Script}
use Rattle.ba_script.specs.declared.entry.ScriptEntry.{ScriptEntry}
use Rattle.ba_script.specs.declared.entry.ScriptEntry.TheVariants as said
use Rattle.ba_session.specs.Asking.{Replies, answer_in}
use Rattle.ba_session.specs.KeyReads.{KeyReads, LetsThrough}
use Rattle.ba_keys.specs.Literals.{key_queries}
use Rattle.ba_session.specs.Passing.{ShelfCalls, calls_on}
use Rattle.ba_session.specs.declared.reply.KeyReply.{KeyReply}
use Rattle.ba_session.specs.declared.reply.KeyReply.TheVariants as key_reply
use Rattle.ba_session.specs.declared.reply.Reply.{Reply}
use Rattle.ba_session.specs.declared.reply.Reply.TheVariants as reply
use Rattle.ba_session.specs.declared.request.Request.{Request}
use Rattle.ba_session.specs.declared.service.Closed.{Closed}
use Rattle.ba_tables.specs.TableSet.{TableSet}
use Rattle.ba_template.specs.Shapes.{shard_of}
use Rattle.ba_lanes.specs.Lanes.{AreOfLanes, EachAfter, of_lane}
use Rattle.ba_lanes.specs.declared.journal.Entry.{Entry}
use Rattle.ba_lanes.specs.declared.journal.Entry.TheVariants.{Begin, Ask, Read, End, Publish, Memory}
use Rattle.ba_lanes.specs.declared.journal.Journal.{Journal}
use Rattle.ba_lanes.specs.declared.journal.LineKind.{LineKind}
use Rattle.ba_lanes.specs.declared.journal.LineKind.TheVariants as kinds
use Rattle.ba_versions.specs.Calls as versions
use Rattle.ba_versions.specs.Reads.{calls_of, published as publication, versions_of}
use Rattle.ba_versions.specs.declared.call.VersionCall.{VersionCall}
use Rattle.ba_versions.specs.declared.call.VersionCall.TheVariants.{Pin, Refused}

-- ---- requests, which their begin lines number from 0

abbrev pub context_in : ScriptEntry → List Context
context_in (said.Begin request name context) = context ∷ []
context_in (said.Ask request name text) = []
context_in (said.Read request name key arguments questions) = []
context_in (said.End request name) = []
context_in (said.Publish number set) = []

-- the contexts of the requests, in the order of their begin lines
abbrev pub contexts_of : List ScriptEntry → List Context
contexts_of entries = flat_map context_in entries

-- the request with this number has this context
abbrev pub HasContext : Script → ℕ → Context → Type 0
HasContext script number context = slice_get (contexts_of script.entries) number ≡ Some context

-- ---- lanes

-- the number by which a line comes to its lane: that of its request, or of its publish line
abbrev pub number_in : ScriptEntry → ℕ
number_in (said.Begin request name context) = request
number_in (said.Ask request name text) = request
number_in (said.Read request name key arguments questions) = request
number_in (said.End request name) = request
number_in (said.Publish number set) = number

-- the lane that carries a line, of so many
abbrev pub lane_of : ℕ → ScriptEntry → ℕ
lane_of workers line = number_in line % workers

-- ---- lines

-- the calls that a line makes: on the versions, and for each query that it judges on a shelf
pub record LineCalls : Type 0 where
  pub versions : List VersionCall
  pub shelves : List ShelfCalls

abbrev pub on_versions : List VersionCall → LineCalls
on_versions calls = record { versions = calls; shelves = [] }

-- of a line that judges one query
abbrev pub on_shelves : ShelfCalls → LineCalls
on_shelves calls = record { versions = []; shelves = calls ∷ [] }

-- of a line that judges several queries, one after the other
abbrev pub on_each : List ShelfCalls → LineCalls
on_each calls = record { versions = []; shelves = calls }

-- a line that makes no call
abbrev pub no_calls : LineCalls
no_calls = on_versions []

-- the call by which a request begins over a version
abbrev pub pin_of : ℕ → TableSet → VersionCall
pin_of version tables = Pin version (record { marker = record {}; value = tables })

-- what became of a line: its entry, and the calls that it made
pub record LineDone : Type 0 where
  pub entry : Entry
  pub made : LineCalls

-- ---- requests after some lines

-- the answer that the entry gives this request, if it gives one
abbrev pub answer_of : ℕ → Entry → List TraceEntry
answer_of number (Begin request version) = []
answer_of number (Ask request version it) = if request == number then answer_in it else []
answer_of number (Read request version key it) = []
answer_of number (End request version) = []
answer_of number (Publish version) = []
answer_of number (Memory kind request version) = []

-- the trace of a request: the answers that entries give it, in order
abbrev pub trace_in : ℕ → List Entry → List TraceEntry
trace_in number entries = flat_map (answer_of number) entries

abbrev pub trace_of : ℕ → List LineDone → List TraceEntry
trace_of number earlier = flat_map (λ it. answer_of number it.entry) earlier

-- the line begins the request over this version of the tables, which it pins
abbrev pub begins : ℕ → ℕ → TableSet → LineDone
begins number version tables = record {
  entry = Begin number version;
  made = on_versions (pin_of version tables ∷ []);
}

-- The request with this number as it stands after earlier lines: it began over its version of the
-- tables, has the context of its begin line, and was told what they answer it.
pub record IsRequest (input : Input) (earlier : List LineDone) (number : ℕ) (asker : Request)
    : Type 0 where
  pub begun : Contains earlier (begins number asker.version asker.tables)
  pub context : HasContext input.script number asker.context
  pub trace : asker.trace ≡ trace_of number earlier

-- the request found no memory when it began
abbrev pub IsLost : List LineDone → ℕ → Type 0
IsLost earlier number =
    (version : ℕ) (tables : TableSet) → ¬ (Contains earlier (begins number version tables))

-- ---- entries

-- the request begins over a version, which it pins
pub record IsBegun (request : ℕ) (it : LineDone) : Type 0 where
  pub version : ℕ
  pub tables : TableSet
  pub is : it ≡ begins request version tables

-- the request finds no memory to begin, before its call on the versions or in it
pub record IsUnbegun (request : ℕ) (it : LineDone) : Type 0 where
  pub entry_is : it.entry ≡ Memory kinds.Begin (Some request) None
  pub made_is : (it.made ≡ no_calls) ⊎ (it.made ≡ on_versions (Refused ∷ []))

-- a line of this kind, and of this request if it is of one, finds no memory, and makes no call
abbrev pub IsUnserved : LineKind → Option ℕ → LineDone → Type 0
IsUnserved kind request it = it ≡ record { entry = Memory kind request None; made = no_calls }

-- a line of this kind is of a request that found no memory when it began
pub record IsOfLost (earlier : List LineDone) (kind : LineKind) (request : ℕ) (it : LineDone)
    : Type 0 where
  pub lost : IsLost earlier request
  pub unserved : IsUnserved kind (Some request) it

-- The entry of a question of the request, over its version, with this reply. Want of memory is no
-- reply there: it is told as that of any other line.
abbrev pub asked : ℕ → ℕ → Reply → Entry
asked request version (reply.Answer query rows by) =
    Ask request version (reply.Answer query rows by)
asked request version (reply.Blocked query why) = Ask request version (reply.Blocked query why)
asked request version (reply.Unread fault) = Ask request version (reply.Unread fault)
asked request version reply.NoMemory = Memory kinds.Ask (Some request) (Some version)

-- a question of the request, with the reply that it has after earlier lines
pub record IsAsk (input : Input) (earlier : List LineDone) (request : ℕ) (text : List ℕ)
    (it : LineDone) : Type 0 where
  pub asker : Request
  pub asks : IsRequest input earlier request asker
  pub reply : Reply
  pub calls : ShelfCalls
  pub replies : Replies input.policy asker (effort_of input) text calls reply
  pub is : it ≡ record { entry = asked request asker.version reply; made = on_shelves calls }

-- The entry of a read by the request, over its version, of the key with this number, with this
-- reply. Want of memory is told as that of any other line.
abbrev pub read_as : ℕ → ℕ → ℕ → KeyReply → Entry
read_as request version key (key_reply.Allowed queries by) =
    Read request version key (key_reply.Allowed queries by)
read_as request version key (key_reply.Blocked queries before why) =
    Read request version key (key_reply.Blocked queries before why)
read_as request version key key_reply.NoMemory = Memory kinds.Read (Some request) (Some version)

-- A read by the request of the key with this number, with the reply that it has after earlier
-- lines: its queries are the key's, with the line's arguments as literals. Where it is let through,
-- each of them has one answer in all databases that the user can't tell from the request's tables.
pub record IsRead (input : Input) (earlier : List LineDone) (request number : ℕ)
    (arguments : Context) (it : LineDone) : Type 0 where
  pub asker : Request
  pub asks : IsRequest input earlier request asker
  pub key : CacheKey
  pub key_is : slice_get input.policy.keys number ≡ Some key
  pub reply : KeyReply
  pub calls : List ShelfCalls
  pub reads : KeyReads input.policy asker (effort_of input)
      (key_queries input.policy key arguments) calls reply
  pub through : LetsThrough input.policy asker reply
  pub is : it ≡ record { entry = read_as request asker.version number reply; made = on_each calls }

-- the request, which had begun, ends over its version
pub record IsEnd (earlier : List LineDone) (request : ℕ) (it : LineDone) : Type 0 where
  pub version : ℕ
  pub tables : TableSet
  pub begun : Contains earlier (begins request version tables)
  pub is : it ≡ record { entry = End request version; made = no_calls }

-- the table set of the publish line with this number becomes a version
pub record IsPublish (input : Input) (number : ℕ) (it : LineDone) : Type 0 where
  pub tables : TableSet
  pub there : slice_get input.published number ≡ Some tables
  pub version : ℕ
  pub is : it ≡ record {
    entry = Publish version;
    made = on_versions (publication tables version ∷ []);
  }

-- what becomes of a line, after earlier lines
abbrev pub IsServed : Input → List LineDone → ScriptEntry → LineDone → Type 0
IsServed input earlier (said.Begin request name context) it =
    IsBegun request it ⊎ IsUnbegun request it
IsServed input earlier (said.Ask request name text) it =
    IsAsk input earlier request text it ⊎ IsOfLost earlier kinds.Ask request it
IsServed input earlier (said.Read request name key arguments questions) it =
    IsRead input earlier request key arguments it ⊎ IsOfLost earlier kinds.Read request it
IsServed input earlier (said.End request name) it =
    IsEnd earlier request it ⊎ IsOfLost earlier kinds.End request it
IsServed input earlier (said.Publish number set) it =
    IsPublish input number it ⊎ IsUnserved kinds.Publish None it

-- the lines and what becomes of them, one by one, after earlier lines
abbrev pub AreServed : Input → List LineDone → List ScriptEntry → List LineDone → Type 0
AreServed input earlier lines its = EachAfter (IsServed input) earlier lines its

-- ---- templates that are loaded

-- a template that is loaded, with the answer of the shelf that it is admitted to
pub record Load : Type 0 where
  pub template : kernel.Proof
  pub answer : Answer

-- the call that admits it, on the shelf of its shape's shard
abbrev pub admit_of : Load → ShelfCalls
admit_of it = record {
  shard = shard_of (shape_of_template it.template);
  calls = Admit (record { marker = record {}; value = it.template }) it.answer ∷ [];
}

-- the calls that admit those of the shelf k, in their order
abbrev pub admits_on : ℕ → List Load → List ShelfCall
admits_on k loads = flat_map (λ it. calls_on k (admit_of it)) loads

-- these are the input's templates, each with an answer
abbrev pub AreLoads : Input → List Load → Type 0
AreLoads input loads = map (λ (it : Load). it.template) loads ≡ input.loaded

-- ---- histories

-- what became of the lines of the lane k, in their order, where this became of all lines
abbrev pub done_in : Input → List LineDone → ℕ → List LineDone
done_in input served k = of_lane (lane_of input.workers) k input.script.entries served

-- the calls that the line made on the shelf k, query by query
abbrev pub shelf_calls_of : ℕ → LineDone → List ShelfCall
shelf_calls_of k it = flat_map (λ calls. calls_on k calls) it.made.shelves

-- the calls that these lines made, on the versions and on the shelf k
abbrev pub versions_made : List LineDone → List VersionCall
versions_made its = flat_map (λ it. it.made.versions) its

abbrev pub made_on : ℕ → List LineDone → List ShelfCall
made_on k its = flat_map (λ it. shelf_calls_of k it) its

-- The versions' calls are those of the lines, lane by lane in their order, and legal from the
-- input's tables on. The opening pass makes none.
pub record HasVersions (input : Input) (served : List LineDone) (histories : Closed) : Type 0 where
  pub calls : AreOfLanes [] input.workers (λ k. versions_made (done_in input served k))
      (calls_of histories.versions) histories.numbers.items
  pub legal : ∥ versions.Legal input.tables (calls_of histories.versions)
      (versions_of histories.versions) ∥₁

-- The calls of the shelf k are those of the opening pass, which admit the loaded templates of its
-- shard in their order, and behind them those of the lines, lane by lane in their order. They are
-- legal from an empty shelf on.
pub record HasShelf (input : Input) (loads : List Load) (served : List LineDone) (k : ℕ)
    (it : ClosedShelf) : Type 0 where
  pub calls : AreOfLanes (admits_on k loads) input.workers
      (λ i. made_on k (done_in input served i)) (shelf.calls_of it.0) it.1.items
  pub legal : ∥ shelves.Legal (shelf.calls_of it.0) (shelf.rows_of it.0) ∥₁

pub record HasShelves (input : Input) (loads : List Load) (served : List LineDone)
    (histories : Closed) : Type 0 where
  pub eight : length histories.shelves.items ≡ shard_count
  pub each : (k : ℕ) (d : ClosedShelf) → k < shard_count →
      HasShelf input loads served k (slice_index_or histories.shelves.items k d)

-- One entry for each line of the script, in order, and the calls of these lines are the histories
-- of the versions and of the shelves, each lane's in the order of its lines, with the number of its
-- pass. In front of them each shelf has the admits of the loaded templates of its shard. A request
-- begins over the version that was the last one, with an empty trace, and each of its questions and
-- reads has the reply of the request as it then stands, under the input's effort.
pub record Legal (input : Input) (journal : Journal) : Type 0 where
  pub input_fits : IsInput input
  pub loads : List Load
  pub loaded : AreLoads input loads
  pub served : List LineDone
  pub entries : journal.entries ≡ map (λ it. it.entry) served
  pub lines : AreServed input [] input.script.entries served
  pub versions : HasVersions input served journal.histories
  pub shelves : HasShelves input loads served journal.histories

-- Whether the entry is want of memory. A question or a read that has this reply is such an entry
-- too (see `asked` and `read_as`), so the reply of an `Ask` or a `Read` is none in a legal journal.
unfoldable pub is_memory : Entry → Bool
is_memory (Begin request version) = false
is_memory (Ask request version it) = false
is_memory (Read request version key it) = false
is_memory (End request version) = false
is_memory (Publish version) = false
is_memory (Memory kind request version) = true

-- whether some line answered want of memory
abbrev pub lacks_memory : Journal → Bool
lacks_memory journal = list_any is_memory journal.entries

-- ---- the templates that are left

-- The templates that the histories of the shelves leave: from the shard 0 on, and of a shelf shapes
-- from the one that was used last on, and the templates of a shape from the oldest on.
abbrev pub left_templates : Journal → List kernel.Proof
left_templates journal =
    flat_map (λ (it : ClosedShelf). templates_in (shelf.rows_of it.0))
    journal.histories.shelves.items
