-- A request beside the machine that decides which questions are answered.
use Rattle.std.specs.Prelude.{◌≡◌, ◌≢◌, ℕ, ◌+◌, List, [], ◌∷◌, ◌++◌, All, Contains, None, Some, true, false, length, slice_get, take, ⊤}
use Rattle.std.specs.List.{AllZip}
use Rattle.std.specs.List.Sorted.{IsStrictlySortedBy}
use Rattle.std.specs.Map.{keys_of}
use Rattle.std.specs.Ordering.{nat_cmp}
use Rattle.ba_cache.specs.declared.call.Kept.{Kept}
use Rattle.ba_comply.specs.declared.trace.TraceEntry.{TraceEntry}
use Rattle.ba_core.specs.State.{ChangesOnly, State, opened_at}
use Rattle.ba_core.specs.Steps.{Fits, Steps}
use Rattle.ba_core.specs.declared.event.Asked.TheVariants as asked
use Rattle.ba_core.specs.declared.event.CoreReply.{CoreReply}
use Rattle.ba_core.specs.declared.event.CoreReply.TheVariants as replies
use Rattle.ba_core.specs.declared.event.Event.{Event}
use Rattle.ba_core.specs.declared.event.Event.TheVariants as events
use Rattle.ba_core.specs.declared.event.Ground.{Ground}
use Rattle.ba_core.specs.declared.event.Ground.TheVariants as grounds
use Rattle.ba_core.specs.declared.opened.Opened.{Opened}
use Rattle.ba_model.specs.declared.policy.Context.{Context}
use Rattle.ba_model.specs.declared.policy.Policy.{Policy}
use Rattle.ba_model.specs.declared.query.Query.{Query}
use Rattle.ba_session.specs.Asking.{IsBegun, Replies, answer_in, look_at, question}
use Rattle.ba_session.specs.KeyReads.{KeyReads}
use Rattle.ba_session.specs.Passing.{ShelfCalls}
use Rattle.ba_session.specs.declared.reply.By.{By}
use Rattle.ba_session.specs.declared.reply.By.TheVariants as by
use Rattle.ba_session.specs.declared.reply.KeyReply.{KeyReply}
use Rattle.ba_session.specs.declared.reply.KeyReply.TheVariants as key_reply
use Rattle.ba_session.specs.declared.reply.Reply.{Reply}
use Rattle.ba_session.specs.declared.reply.Reply.TheVariants.{Answer, Blocked, Unread, NoMemory}
use Rattle.ba_session.specs.declared.request.Request.{Request}
use Rattle.ba_settle.specs.Settling.{Effort}

-- ---- the machine's part

-- the request as the machine keeps it
abbrev pub opened_of : Request → Opened
opened_of asker = record {
  context = asker.context;
  version = asker.version;
  trace = asker.trace;
}

-- a machine for the request: it has the policy, and under the number of the request's version its
-- tables
pub record IsFor (policy : Policy) (s : State) (asker : Request) : Type 0 where
  pub policy_is : s.policy ≡ policy
  pub tables_are : slice_get s.versions asker.version ≡ Some asker.tables

-- a machine for the request, on which no request of the number is open
pub record CanBegin (policy : Policy) (s : State) (k : ℕ) (asker : Request) : Type 0 where
  pub is_for : IsFor policy s asker
  pub free : opened_at s k ≡ None

-- a machine for the request, which is open on it under the number as it stands
pub record HasRequest (policy : Policy) (s : State) (k : ℕ) (asker : Request) : Type 0 where
  pub is_for : IsFor policy s asker
  pub is_open : opened_at s k ≡ Some (opened_of asker)

-- Each template that these calls found was admitted to the machine, under the number that the one
-- with its id on the shelf of this shard has there.
pub record HasFound (number : ℕ → ℕ → ℕ) (s : State) (made : ShelfCalls) : Type 0 where
  pub each : (query : Query) (found : List Kept) (it : Kept) →
      Contains made.calls (look_at query found) → Contains found it →
      slice_get s.templates (number made.shard it.id) ≡ Some it.template

-- ---- evidence

-- the ground that the evidence of an answer is: the cover, the match of the template of its number,
-- or the proof of the question's problem by the steps
abbrev pub ground_of : (ℕ → ℕ → ℕ) → Policy → Request → Query → By → Ground
ground_of number policy asker query (by.Cover cover) = grounds.Cover cover
ground_of number policy asker query (by.Template shard id template found) =
    grounds.Template (number shard id) found
ground_of number policy asker query (by.Proof steps keeping) =
    grounds.Proof (record { problem = question policy asker query; steps = steps })

-- the grounds that the evidence of several queries is, query by query
abbrev pub grounds_of : (ℕ → ℕ → ℕ) → Policy → Request → List Query → List By → List Ground
grounds_of number policy asker [] bases = []
grounds_of number policy asker (query ∷ queries) [] = []
grounds_of number policy asker (query ∷ queries) (basis ∷ bases) =
    ground_of number policy asker query basis ∷ grounds_of number policy asker queries bases

-- Of a read that is blocked, where the queries in front have this evidence, those that were judged:
-- these, and the one behind them.
abbrev pub judged : List Query → List By → List Query
judged queries before = take (length before + 1) queries

-- and the grounds that their evidence is: that of the one behind is a refusal
abbrev pub judged_grounds : (ℕ → ℕ → ℕ) → Policy → Request → List Query → List By → List Ground
judged_grounds number policy asker queries before =
    grounds_of number policy asker queries before ++ grounds.Refuse ∷ []

-- ---- replies

-- the request as it stands after a reply
abbrev pub after : Request → Reply → Request
after asker reply = record asker { trace = asker.trace ++ answer_in reply }

-- the open requests stand by rising numbers, as they do in every machine
abbrev pub AreRising : State → Type 0
AreRising s = IsStrictlySortedBy nat_cmp (keys_of s.requests)

-- the machine takes the event with this reply and no other, and then has this state and no other
pub record IsReplyTo (old : State) (event : Event) (reply : CoreReply) (new : State) : Type 0 where
  pub step : Steps old event reply new
  pub only : (other : CoreReply) (next : State) → Steps old event other next → other ≡ reply
  pub rising : AreRising old → AreRising new
  pub alone : (next : State) → Steps old event reply next → AreRising old → AreRising next →
      next ≡ new

-- the machine's reply to the event is this one, and it then has the request as it stands later
pub record IsToldBy (policy : Policy) (s : State) (k : ℕ) (event : Event) (reply : CoreReply)
    (later : Request) : Type 0 where
  pub new : State
  pub is_reply : IsReplyTo s event reply new
  pub has : HasRequest policy new k later

-- What a request's reply is to a machine that has the request: an answer is the machine's reply to
-- the ask with the ground that its evidence is, a block its reply to a refusal; a text that is
-- unread, and want of memory, are no event. The machine then has the request as it stands after the
-- reply.
abbrev pub AgreesOn : (ℕ → ℕ → ℕ) → Policy → State → ℕ → Request → Reply → Type 0
AgreesOn number policy s k asker (Answer query rows basis) =
    IsToldBy policy s k (events.Ask k query (ground_of number policy asker query basis))
    (replies.Asked (asked.Answer rows)) (after asker (Answer query rows basis))
AgreesOn number policy s k asker (Blocked query why) =
    IsToldBy policy s k (events.Ask k query grounds.Refuse) (replies.Asked asked.Blocked)
    (after asker (Blocked query why))
AgreesOn number policy s k asker (Unread fault) =
    HasRequest policy s k (after asker (Unread fault))
AgreesOn number policy s k asker NoMemory = HasRequest policy s k (after asker NoMemory)

-- What a request's reply to a read is to a machine that has the request: where the read is let
-- through, the machine's reply to the read with the grounds that its evidence is; where it is
-- blocked, its reply to the read of the queries that were judged, the last of which is refused,
-- whatever queries with grounds that fit them stand behind. Want of memory is no event. The machine
-- then has the request as before.
abbrev pub AgreesOnRead : (ℕ → ℕ → ℕ) → Policy → State → ℕ → Request → KeyReply → Type 0
AgreesOnRead number policy s k asker (key_reply.Allowed queries by) =
    IsToldBy policy s k (events.Read k queries (grounds_of number policy asker queries by))
    (replies.Read true) asker
AgreesOnRead number policy s k asker (key_reply.Blocked queries before why) =
    (more : List Query) (others : List Ground) →
    AllZip (Fits policy s.templates (opened_of asker)) more others →
    IsToldBy policy s k
    (events.Read k (judged queries before ++ more)
    (judged_grounds number policy asker queries before ++ others))
    (replies.Read false) asker
AgreesOnRead number policy s k asker key_reply.NoMemory = HasRequest policy s k asker

-- this trace is what the machine had of the request, its reply to the end is that the request
-- ended, and no request of the number is open then
pub record EndsWith (s : State) (k : ℕ) (trace : List TraceEntry) : Type 0 where
  pub asker : Opened
  pub was_open : opened_at s k ≡ Some asker
  pub told : asker.trace ≡ trace
  pub new : State
  pub is_reply : IsReplyTo s (events.End k) replies.Ended new
  pub closes : ChangesOnly s new k None

-- ---- other events

-- the event is of no request of the number
abbrev pub IsOfOthers : ℕ → Event → Type 0
IsOfOthers k (events.Publish tables) = ⊤
IsOfOthers k (events.Begin j context version) = j ≢ k
IsOfOthers k (events.Ask j query why) = j ≢ k
IsOfOthers k (events.Read j queries grounds) = j ≢ k
IsOfOthers k (events.Admit template) = ⊤
IsOfOthers k (events.End j) = j ≢ k

-- the new state has the request as the old one has it, and each template under its number
pub record Keeps (policy : Policy) (k : ℕ) (asker : Request) (old new : State) : Type 0 where
  pub has : HasRequest policy new k asker
  pub found : (number : ℕ → ℕ → ℕ) (made : ShelfCalls) →
      HasFound number old made → HasFound number new made

-- ---- the laws

-- the beginning of a request is the machine's step on the event that begins it, on its version
abbrev pub BeginAgrees : Type 0
BeginAgrees = (policy : Policy) (s : State) (k : ℕ) (context : Context) (asker : Request) →
    CanBegin policy s k asker → IsBegun context asker →
    IsToldBy policy s k (events.Begin k context asker.version) replies.Begun asker

-- each reply of a request is the machine's
abbrev pub AskAgrees : Type 0
AskAgrees = (number : ℕ → ℕ → ℕ) (policy : Policy) (s : State) (k : ℕ) (asker : Request)
    (effort : Effort) (text : List ℕ) (made : ShelfCalls) (reply : Reply) →
    HasRequest policy s k asker → HasFound number s made →
    Replies policy asker effort text made reply → AgreesOn number policy s k asker reply

-- each reply of a request to a read is the machine's
abbrev pub ReadAgrees : Type 0
ReadAgrees = (number : ℕ → ℕ → ℕ) (policy : Policy) (s : State) (k : ℕ) (asker : Request)
    (effort : Effort) (queries : List Query) (made : List ShelfCalls) (reply : KeyReply) →
    HasRequest policy s k asker → All (HasFound number s) made →
    KeyReads policy asker effort queries made reply → AgreesOnRead number policy s k asker reply

-- the end of a request is the machine's step on the event that ends it
abbrev pub EndAgrees : Type 0
EndAgrees = (policy : Policy) (s : State) (k : ℕ) (asker : Request) (trace : List TraceEntry) →
    HasRequest policy s k asker → trace ≡ asker.trace → EndsWith s k trace

-- whatever else happens to the machine in between, it keeps the request
abbrev pub OthersAgree : Type 0
OthersAgree = (policy : Policy) (s : State) (k : ℕ) (asker : Request) (event : Event)
    (reply : CoreReply) (new : State) →
    HasRequest policy s k asker → IsOfOthers k event → Steps s event reply new →
    Keeps policy k asker s new
