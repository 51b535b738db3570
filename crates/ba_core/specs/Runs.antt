-- Runs of the machine over lists of events, and what each answer is.
use Rattle.std.specs.Prelude.{◌≡◌, ℕ, List, [], ◌∷◌, ◌++◌, Bool, true, false, All, Some, slice_get, ⊤}
use Rattle.ba_comply.specs.Comply.{Complies, Records}
use Rattle.ba_core.specs.State.{State, opened_at}
use Rattle.ba_core.specs.Steps.{Steps}
use Rattle.ba_core.specs.declared.event.Asked.{Asked}
use Rattle.ba_core.specs.declared.event.Asked.TheVariants.{Answer, Blocked}
use Rattle.ba_core.specs.declared.event.CoreReply.{CoreReply}
use Rattle.ba_core.specs.declared.event.CoreReply.TheVariants as replies
use Rattle.ba_core.specs.declared.event.Event.{Event}
use Rattle.ba_core.specs.declared.event.Event.TheVariants as events
use Rattle.ba_core.specs.declared.opened.Opened.{Opened}
use Rattle.ba_model.specs.Conform.{Conforms}
use Rattle.ba_model.specs.Fit.{ContextFits, kinds_of}
use Rattle.ba_model.specs.Meaning.{IsAnswer}
use Rattle.ba_model.specs.declared.policy.Policy.{Policy}
use Rattle.ba_model.specs.declared.query.Query.{Query}
use Rattle.ba_model.specs.declared.value.Value.{Value}
use Rattle.ba_tables.specs.TableSet.{TableSet}

-- ---- answers

-- The rows are the query's answer in the version of the request, which conforms and has the request's earlier answers, and the
-- query is compliant after these (as in Blockaid, OSDI 2022).
pub record IsCompliant (old : State) (k : ℕ) (query : Query) (rows : List (List Value)) : Type 0 where
  pub asker : Opened
  pub is_open : opened_at old k ≡ Some asker
  pub tables : TableSet
  pub pinned : slice_get old.versions asker.version ≡ Some tables
  pub conforms : Conforms old.policy.schema tables.rows
  pub recorded : Records asker.trace asker.context tables.rows
  pub answer : IsAnswer query asker.context tables.rows rows
  pub complies : Complies old.policy asker.context asker.trace query

-- what is told of a question
abbrev pub TellsCompliantly : State → ℕ → Query → Asked → Type 0
TellsCompliantly old k query (Answer rows) = IsCompliant old k query rows
TellsCompliantly old k query Blocked = ⊤

-- Each of the queries is compliant after the answers that the request was told before, which are
-- those of its version, which conforms.
pub record ReadIsCompliant (old : State) (k : ℕ) (queries : List Query) : Type 0 where
  pub asker : Opened
  pub is_open : opened_at old k ≡ Some asker
  pub tables : TableSet
  pub pinned : slice_get old.versions asker.version ≡ Some tables
  pub conforms : Conforms old.policy.schema tables.rows
  pub recorded : Records asker.trace asker.context tables.rows
  pub comply : All (Complies old.policy asker.context asker.trace) queries

-- what an allowed read lets the request read
abbrev pub AllowsCompliantly : State → ℕ → List Query → Bool → Type 0
AllowsCompliantly old k queries true = ReadIsCompliant old k queries
AllowsCompliantly old k queries false = ⊤

-- what is told by a reply: rows by an answer, and what lies behind a read's queries by an allowed
-- read
abbrev pub RepliesCompliantly : State → Event → CoreReply → Type 0
RepliesCompliantly old (events.Ask k query why) (replies.Asked asked) = TellsCompliantly old k query asked
RepliesCompliantly old (events.Read k queries grounds) (replies.Read allowed) =
    AllowsCompliantly old k queries allowed
RepliesCompliantly old event reply = ⊤

-- ---- runs

-- a step of the machine, whose reply, if it is an answer, complies at that moment
pub record IsStep (old : State) (event : Event) (reply : CoreReply) (new : State) : Type 0 where
  pub step : Steps old event reply new
  pub compliant : RepliesCompliantly old event reply

-- the events are taken in turn from the first state, with these replies, and leave the last one
pub data Runs (first : State) : List Event → List CoreReply → State → Type 0 where
  start : Runs first [] [] first
  next : {events : List Event} {replies : List CoreReply} {event : Event} {reply : CoreReply} {old new : State} → Runs first events replies old → IsStep old event reply new → Runs first (events ++ event ∷ []) (replies ++ reply ∷ []) new

-- ---- what events are asked to be

-- tables of the policy's schema, and contexts for the policy
abbrev pub EventFits : Policy → Event → Type 0
EventFits policy (events.Publish tables) = tables.schema ≡ policy.schema
EventFits policy (events.Begin k context version) = ContextFits (kinds_of policy.params) context
EventFits policy (events.Ask k query why) = ⊤
EventFits policy (events.Read k queries grounds) = ⊤
EventFits policy (events.Admit template) = ⊤
EventFits policy (events.End k) = ⊤
