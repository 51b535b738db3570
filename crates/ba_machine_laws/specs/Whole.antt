-- A whole request beside the machine: its events are a run.
use Rattle.std.specs.Prelude.{◌≡◌, ℕ, List, [], ◌∷◌, ◌++◌, All, true, false, map}
use Rattle.std.specs.List.{flat_map}
use Rattle.ba_machine_laws.specs.Agreeing.{AreRising, CanBegin, HasFound, after, ground_of, grounds_of, judged, judged_grounds}
use Rattle.ba_comply.specs.declared.trace.TraceEntry.{TraceEntry}
use Rattle.ba_core.specs.Runs.{Runs}
use Rattle.ba_core.specs.State.{State}
use Rattle.ba_core.specs.declared.event.Asked.TheVariants as asked
use Rattle.ba_core.specs.declared.event.CoreReply.{CoreReply}
use Rattle.ba_core.specs.declared.event.CoreReply.TheVariants as replies
use Rattle.ba_core.specs.declared.event.Event.{Event}
use Rattle.ba_core.specs.declared.event.Event.TheVariants as events
use Rattle.ba_core.specs.declared.event.Ground.TheVariants as grounds
use Rattle.ba_core.specs.declared.opened.Answered.{Answered}
use Rattle.ba_kernel.specs.Problems.{StrongAll}
use Rattle.ba_model.specs.declared.policy.Context.{Context}
use Rattle.ba_model.specs.declared.policy.Policy.{Policy}
use Rattle.ba_model.specs.declared.query.Query.{Query}
use Rattle.ba_session.specs.Asking.{IsRequestOf, IsBegun, IsServable, Replies}
use Rattle.ba_session.specs.KeyReads.{KeyReads}
use Rattle.ba_session.specs.Passing.{ShelfCalls}
use Rattle.ba_session.specs.declared.reply.KeyReply.{KeyReply}
use Rattle.ba_session.specs.declared.reply.KeyReply.TheVariants as key_reply
use Rattle.ba_session.specs.declared.reply.Reply.{Reply}
use Rattle.ba_session.specs.declared.reply.Reply.TheVariants.{Answer, Blocked, Unread, NoMemory}
use Rattle.ba_session.specs.declared.request.Request.{Request}
use Rattle.ba_settle.specs.Settling.{Effort}

-- ---- the request's part

-- a question of a request: its text, the effort of its search, its calls on a shelf, and its reply
pub record Question : Type 0 where
  pub text : List ℕ
  pub effort : Effort
  pub made : ShelfCalls
  pub reply : Reply

-- a read by a request: its queries, the effort of its searches, its calls on shelves, and its reply
pub record KeyRead : Type 0 where
  pub queries : List Query
  pub effort : Effort
  pub made : List ShelfCalls
  pub reply : KeyReply

-- what a request demands: an answer, or a read
pub data Demand : Type 0 where
  asks : Question → Demand
  reads : KeyRead → Demand

-- The demands are made in turn: each time the request may ask, and the reply is that of the request
-- as it stands. This is the request after them, which may ask.
abbrev pub AreTold : Policy → Request → List Demand → Request → Type 0
AreTold policy asker [] last = IsRequestOf policy asker × (last ≡ asker)
AreTold policy asker (asks it ∷ others) last =
    IsRequestOf policy asker × Replies policy asker it.effort it.text it.made it.reply ×
    AreTold policy (after asker it.reply) others last
AreTold policy asker (reads it ∷ others) last =
    IsRequestOf policy asker × KeyReads policy asker it.effort it.queries it.made it.reply ×
    AreTold policy asker others last

-- ---- the machine's part

-- each template of the machine is sound, as the type of templates keeps
abbrev pub AreSound : State → Type 0
AreSound s = All (λ template. StrongAll template.problem) s.templates

-- the event that a question with this reply is: none where it is unread, or finds no memory
abbrev pub event_in : (ℕ → ℕ → ℕ) → Policy → ℕ → Request → Reply → List Event
event_in number policy k asker (Answer query rows basis) =
    events.Ask k query (ground_of number policy asker query basis) ∷ []
event_in number policy k asker (Blocked query why) = events.Ask k query grounds.Refuse ∷ []
event_in number policy k asker (Unread fault) = []
event_in number policy k asker NoMemory = []

-- the machine's reply that it is
abbrev pub told_in : Reply → List CoreReply
told_in (Answer query rows basis) = replies.Asked (asked.Answer rows) ∷ []
told_in (Blocked query why) = replies.Asked asked.Blocked ∷ []
told_in (Unread fault) = []
told_in NoMemory = []

-- The event that a read with this reply is: of its queries with their evidence, and of a block of
-- those that were judged. It is none where there is no memory.
abbrev pub read_in : (ℕ → ℕ → ℕ) → Policy → ℕ → Request → KeyReply → List Event
read_in number policy k asker (key_reply.Allowed queries by) =
    events.Read k queries (grounds_of number policy asker queries by) ∷ []
read_in number policy k asker (key_reply.Blocked queries before why) =
    events.Read k (judged queries before) (judged_grounds number policy asker queries before) ∷ []
read_in number policy k asker key_reply.NoMemory = []

-- the machine's reply that it is
abbrev pub told_of_read : KeyReply → List CoreReply
told_of_read (key_reply.Allowed queries by) = replies.Read true ∷ []
told_of_read (key_reply.Blocked queries before why) = replies.Read false ∷ []
told_of_read key_reply.NoMemory = []

-- the events of demands that are made in turn
abbrev pub demands_of : (ℕ → ℕ → ℕ) → Policy → ℕ → Request → List Demand → List Event
demands_of number policy k asker [] = []
demands_of number policy k asker (asks it ∷ others) =
    event_in number policy k asker it.reply ++
    demands_of number policy k (after asker it.reply) others
demands_of number policy k asker (reads it ∷ others) =
    read_in number policy k asker it.reply ++ demands_of number policy k asker others

-- the machine's replies that one is
abbrev pub told_by : Demand → List CoreReply
told_by (asks it) = told_in it.reply
told_by (reads it) = told_of_read it.reply

-- the events of a whole request: its beginning, its demands, its end
abbrev pub events_of : (ℕ → ℕ → ℕ) → Policy → ℕ → Context → Request → List Demand → List Event
events_of number policy k context asker demands =
    events.Begin k context asker.version ∷
    (demands_of number policy k asker demands ++ events.End k ∷ [])

-- the machine's replies that they are
abbrev pub replies_of : List Demand → List CoreReply
replies_of demands = replies.Begun ∷ (flat_map told_by demands ++ replies.Ended ∷ [])

-- each template that the demand's looks found was admitted to the machine
abbrev pub AllFound : (ℕ → ℕ → ℕ) → State → Demand → Type 0
AllFound number s (asks it) = HasFound number s it.made
AllFound number s (reads it) = All (HasFound number s) it.made

-- the entries of the machine's log that a request's trace is
abbrev pub logged : ℕ → List TraceEntry → List Answered
logged k trace =
    map (λ entry. record { request = k; query = entry.query; rows = entry.rows }) trace

-- the machine takes the events in turn with these replies and no others, and then has this state
pub record IsRunOf (first : State) (es : List Event) (rs : List CoreReply) (last : State)
    : Type 0 where
  pub runs : Runs first es rs last
  pub only : (others : List CoreReply) (end : State) → Runs first es others end → others ≡ rs

-- ---- the law

-- The events of a request are a run of the machine with the request's replies. It leaves the
-- machine as it was, but for the request's answers at the end of the log.
abbrev pub RequestIsARun : Type 0
RequestIsARun = (number : ℕ → ℕ → ℕ) (policy : Policy) (s : State) (k : ℕ) (context : Context)
    (asker : Request) (demands : List Demand) (last : Request) →
    IsServable policy → CanBegin policy s k asker → AreRising s → AreSound s →
    All (AllFound number s) demands →
    IsBegun context asker → AreTold policy asker demands last →
    IsRunOf s (events_of number policy k context asker demands) (replies_of demands)
    (record s { log = s.log ++ logged k last.trace })
