-- A journal beside the machine that decides which questions are answered: the events that its
-- entries are, and that they are a run.
use Rattle.std.specs.Prelude.{◌≡◌, ℕ, ◌+◌, List, [], ◌∷◌, ◌++◌, Bool, false, if◌then◌else◌, None, Some, length, slice_index_or, take}
use Rattle.std.specs.List.{flat_map}
use Rattle.ba_machine_laws.specs.Shelves.{templates_of}
use Rattle.ba_machine_laws.specs.Whole.{IsRunOf, event_in, read_in, told_in, told_of_read}
use Rattle.ba_cache.specs.Passes.{ClosedShelf}
use Rattle.ba_cache.specs.Reads as shelf
use Rattle.ba_core.specs.State.{State}
use Rattle.ba_core.specs.declared.event.CoreReply.{CoreReply}
use Rattle.ba_core.specs.declared.event.CoreReply.TheVariants as replies
use Rattle.ba_core.specs.declared.event.Event.{Event}
use Rattle.ba_core.specs.declared.event.Event.TheVariants as events
use Rattle.ba_input.specs.declared.input.Input.{Input}
use Rattle.ba_kernel.specs.SearchStates.{Proof}
use Rattle.ba_lanes.specs.Headline.{IsAskerOf}
use Rattle.ba_lanes.specs.Legal.{HasContext, Legal, contexts_of, trace_in}
use Rattle.ba_lanes.specs.declared.journal.Entry.{Entry}
use Rattle.ba_lanes.specs.declared.journal.Entry.TheVariants.{Begin, Ask, Read, End, Publish, Memory}
use Rattle.ba_lanes.specs.declared.journal.Journal.{Journal}
use Rattle.ba_model.specs.declared.query.Query.{Query}
use Rattle.ba_model.specs.declared.value.Value.{Value}
use Rattle.ba_session.specs.declared.reply.By.{By}
use Rattle.ba_session.specs.declared.reply.KeyReply.TheVariants as key_reply
use Rattle.ba_session.specs.declared.reply.Reply.TheVariants.{Answer, Blocked}
use Rattle.ba_session.specs.declared.reply.Why.{Why}
use Rattle.ba_session.specs.declared.request.Request.{Request}
use Rattle.ba_versions.specs.Reads.{versions_of}

-- ---- requests

-- The request with this number as it stands after earlier entries, over this version: it has the
-- context of its begin line, the version's tables, and was told what these entries answer it.
abbrev pub standing : Input → Journal → List Entry → ℕ → ℕ → Request
standing input journal earlier request version = record {
  context =
      slice_index_or (contexts_of input.script.entries) request (record { values = [] });
  version = version;
  tables = slice_index_or (versions_of journal.histories.versions) version input.tables;
  trace = trace_in request earlier;
}

-- ---- entries as events

-- The event that an entry is, after earlier entries: a begin, a question or a read with its
-- evidence as ground, an end. It is none where the text is unread, where there was no memory, and
-- of tables that are published.
abbrev pub event_of : (ℕ → ℕ → ℕ) → Input → Journal → List Entry → Entry → List Event
event_of number input journal earlier (Begin request version) =
    events.Begin request (standing input journal earlier request version).context version ∷ []
event_of number input journal earlier (Ask request version reply) =
    event_in number input.policy request (standing input journal earlier request version) reply
event_of number input journal earlier (Read request version key reply) =
    read_in number input.policy request (standing input journal earlier request version) reply
event_of number input journal earlier (End request version) = events.End request ∷ []
event_of number input journal earlier (Publish version) = []
event_of number input journal earlier (Memory kind request version) = []

-- the machine's reply that it tells
abbrev pub reply_of : Entry → List CoreReply
reply_of (Begin request version) = replies.Begun ∷ []
reply_of (Ask request version reply) = told_in reply
reply_of (Read request version key reply) = told_of_read reply
reply_of (End request version) = replies.Ended ∷ []
reply_of (Publish version) = []
reply_of (Memory kind request version) = []

-- whether the entry is one of a chosen request
abbrev pub is_of : (ℕ → Bool) → Entry → Bool
is_of chosen (Begin request version) = chosen request
is_of chosen (Ask request version reply) = chosen request
is_of chosen (Read request version key reply) = chosen request
is_of chosen (End request version) = chosen request
is_of chosen (Publish version) = false
is_of chosen (Memory kind None version) = false
is_of chosen (Memory kind (Some request) version) = chosen request

-- the events of the chosen requests' entries among these, in their order, after earlier ones
abbrev pub events_after : (ℕ → ℕ → ℕ) → Input → Journal → (ℕ → Bool)
    → List Entry → List Entry → List Event
events_after number input journal chosen earlier [] = []
events_after number input journal chosen earlier (entry ∷ entries) =
    (if is_of chosen entry then event_of number input journal earlier entry else []) ++
    events_after number input journal chosen (earlier ++ entry ∷ []) entries

-- and the replies that they tell
abbrev pub replies_in : (ℕ → Bool) → List Entry → List CoreReply
replies_in chosen entries =
    flat_map (λ entry. if is_of chosen entry then reply_of entry else []) entries

-- ---- the machine's part

-- the templates that the calls of shelves added, shelf by shelf
abbrev pub templates_in : List ClosedShelf → List Proof
templates_in shelves = flat_map (λ it. templates_of (shelf.calls_of it.0)) shelves

-- the number of the template with this id on the shelf of this shard: those of the shelves before
-- it come first
abbrev pub number_by_shelf : Journal → ℕ → ℕ → ℕ
number_by_shelf journal shard id =
    length (templates_in (take shard journal.histories.shelves.items)) + id

-- A machine for the journal: it has the input's policy, the versions that the journal left, the
-- templates that its shelves' calls added, and no open request.
pub record IsMachineOf (input : Input) (journal : Journal) (s : State) : Type 0 where
  pub policy_is : s.policy ≡ input.policy
  pub versions_are : s.versions ≡ versions_of journal.histories.versions
  pub templates_are : s.templates ≡ templates_in journal.histories.shelves.items
  pub none_open : s.requests ≡ []

-- the machine takes the events in turn from this state, with these replies and no others
pub record IsRunFrom (first : State) (es : List Event) (rs : List CoreReply) : Type 0 where
  pub last : State
  pub run : IsRunOf first es rs last

-- ---- the laws

-- A request that begins has the context of its begin line. A question that is answered or blocked
-- is asked by the request that stands there, and a read that is let through or blocked is made by
-- it: it has this context, the tables of the version that it pinned, and the trace that earlier
-- entries tell.
pub record AskersStand (input : Input) (journal : Journal) : Type 0 where
  pub begins :
      (before after : List Entry) (request version : ℕ) →
      journal.entries ≡ before ++ Begin request version ∷ after →
      HasContext input.script request (standing input journal before request version).context
  pub answers :
      (before after : List Entry) (request version : ℕ) (query : Query)
      (rows : List (List Value)) (basis : By) →
      journal.entries ≡ before ++ Ask request version (Answer query rows basis) ∷ after →
      IsAskerOf input journal request version before
      (standing input journal before request version)
  pub blocks :
      (before after : List Entry) (request version : ℕ) (query : Query) (why : Why) →
      journal.entries ≡ before ++ Ask request version (Blocked query why) ∷ after →
      IsAskerOf input journal request version before
      (standing input journal before request version)
  pub reads :
      (before after : List Entry) (request version number : ℕ) (queries : List Query)
      (bases : List By) →
      journal.entries ≡
      before ++ Read request version number (key_reply.Allowed queries bases) ∷ after →
      IsAskerOf input journal request version before
      (standing input journal before request version)
  pub read_blocks :
      (before after : List Entry) (request version number : ℕ) (queries : List Query)
      (bases : List By) (why : Why) →
      journal.entries ≡
      before ++ Read request version number (key_reply.Blocked queries bases why) ∷ after →
      IsAskerOf input journal request version before
      (standing input journal before request version)

-- So it is in each legal journal.
abbrev pub AskersAreStanding : Type 0
AskersAreStanding =
    (input : Input) (journal : Journal) → Legal input journal → AskersStand input journal

-- Whichever requests are chosen, the events that their entries are, in the order of the script,
-- are a run of the machine with the replies that they tell.
abbrev pub RequestsAreARun : Type 0
RequestsAreARun = (input : Input) (journal : Journal) (chosen : ℕ → Bool) (s : State) →
    Legal input journal → IsMachineOf input journal s →
    ∥ IsRunFrom s
    (events_after (number_by_shelf journal) input journal chosen [] journal.entries)
    (replies_in chosen journal.entries) ∥₁
