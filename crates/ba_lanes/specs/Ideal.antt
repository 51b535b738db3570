-- Runs where equations alone are used, and what becomes of their questions whoever serves them.
use Rattle.std.specs.Prelude.{◌≡◌, ℕ, List, [], ◌∷◌, ◌++◌, All, Some, false, length, slice_get}
use Rattle.ba_input.specs.declared.input.Input.{Input}
use Rattle.ba_model.specs.Equations.{IsOfEquations, PolicyIsOfEquations}
use Rattle.ba_model.specs.Meaning.{IsAnswer}
use Rattle.ba_model.specs.declared.policy.CacheKey.{CacheKey}
use Rattle.ba_model.specs.declared.policy.Context.{Context}
use Rattle.ba_model.specs.declared.policy.Policy.{Policy}
use Rattle.ba_model.specs.declared.query.Query.{Query}
use Rattle.ba_model.specs.declared.value.Value.{Value}
use Rattle.ba_script.specs.Reading.{is_publish}
use Rattle.ba_script.specs.declared.entry.ScriptEntry.{ScriptEntry}
use Rattle.ba_script.specs.declared.entry.ScriptEntry.TheVariants as said
use Rattle.ba_session.specs.Asking.{HasFault, IsCompliant, Reads}
use Rattle.ba_keys.specs.Literals.{key_queries}
use Rattle.ba_session.specs.declared.reply.KeyReply.{KeyReply}
use Rattle.ba_session.specs.declared.reply.KeyReply.TheVariants as key_reply
use Rattle.ba_session.specs.declared.reply.Reply.{Reply}
use Rattle.ba_session.specs.declared.reply.Reply.TheVariants.{Answer, Blocked, Unread, NoMemory}
use Rattle.ba_session.specs.declared.reply.Why.{Why}
use Rattle.ba_session.specs.declared.reply.Why.TheVariants.{Refuted, Spent, Stuck}
use Rattle.ba_session.specs.declared.request.Request.{Request}
use Rattle.ba_lanes.specs.Lanes.{EachAfter}
use Rattle.ba_lanes.specs.Legal.{HasContext, trace_in}
use Rattle.ba_lanes.specs.declared.journal.Entry.{Entry}
use Rattle.ba_lanes.specs.declared.journal.Entry.TheVariants.{Begin, Ask, Read, End, Publish, Memory}
use Rattle.ba_lanes.specs.declared.journal.Journal.{Journal}

-- ---- premises

-- Each atom of the line's question, if its text reads as one, is an `=`, and so is each of the
-- queries that a read judges: those of its key, with the line's arguments as literals.
abbrev pub AsksByEquations : Policy → ScriptEntry → Type 0
AsksByEquations policy (said.Begin request name context) = Unit {0}
AsksByEquations policy (said.Ask request name text) =
    (query : Query) → Reads policy text query → IsOfEquations query
AsksByEquations policy (said.Read request name number arguments questions) =
    (key : CacheKey) → slice_get policy.keys number ≡ Some key →
    All IsOfEquations (key_queries policy key arguments)
AsksByEquations policy (said.End request name) = Unit {0}
AsksByEquations policy (said.Publish number set) = Unit {0}

-- No column may be NULL, each atom of rules, views, questions and reads is an `=`, and no line
-- publishes a table set.
pub record UsesEquations (input : Input) : Type 0 where
  pub policy : PolicyIsOfEquations input.policy
  pub questions : All (AsksByEquations input.policy) input.script.entries
  pub unpublished : All (λ line. is_publish line ≡ false) input.script.entries

-- the block isn't one since the budget is spent
abbrev pub IsUnspent : Why → Type 0
IsUnspent (Refuted pair) = Unit {0}
IsUnspent (Spent steps) = ⊥
IsUnspent (Stuck leaf clause) = Unit {0}

-- the budget isn't spent: by a question, and by a read
abbrev pub IsWithinBudget : Reply → Type 0
IsWithinBudget (Answer query rows by) = Unit {0}
IsWithinBudget (Blocked query why) = IsUnspent why
IsWithinBudget (Unread fault) = Unit {0}
IsWithinBudget NoMemory = Unit {0}

abbrev pub ReadsWithinBudget : KeyReply → Type 0
ReadsWithinBudget (key_reply.Allowed queries by) = Unit {0}
ReadsWithinBudget (key_reply.Blocked queries before why) = IsUnspent why
ReadsWithinBudget key_reply.NoMemory = Unit {0}

-- the line found memory, and its question or read, if it is one, isn't blocked since the budget is
-- spent
abbrev pub IsServedFully : Entry → Type 0
IsServedFully (Begin request version) = Unit {0}
IsServedFully (Ask request version reply) = IsWithinBudget reply
IsServedFully (Read request version key reply) = ReadsWithinBudget reply
IsServedFully (End request version) = Unit {0}
IsServedFully (Publish version) = Unit {0}
IsServedFully (Memory kind request version) = ⊥

-- ---- ideal journals

-- The text reads as the query, which is strongly compliant after the request's trace, and the rows
-- are its answer in the request's tables.
pub record IsIdealAnswer (policy : Policy) (asker : Request) (text : List ℕ) (query : Query)
    (rows : List (List Value)) : Type 0 where
  pub reads : Reads policy text query
  pub compliant : IsCompliant policy asker query
  pub answer : IsAnswer query asker.context asker.tables.rows rows

-- The text reads as the query, which isn't strongly compliant after the request's trace.
pub record IsIdealBlock (policy : Policy) (asker : Request) (text : List ℕ) (query : Query)
    : Type 0 where
  pub reads : Reads policy text query
  pub uncompliant : ¬ (IsCompliant policy asker query)

-- what a reply should be, of the request as it stands, to a text: its first fault, the answer of
-- the query that it reads as, or a block by a refutation
abbrev pub IsIdealReply : Policy → Request → List ℕ → Reply → Type 0
IsIdealReply policy asker text (Answer query rows by) = IsIdealAnswer policy asker text query rows
IsIdealReply policy asker text (Blocked query (Refuted pair)) =
    IsIdealBlock policy asker text query
IsIdealReply policy asker text (Blocked query (Spent steps)) = ⊥
IsIdealReply policy asker text (Blocked query (Stuck leaf clause)) = ⊥
IsIdealReply policy asker text (Unread fault) = HasFault policy text fault
IsIdealReply policy asker text NoMemory = ⊥

-- Each query of the read is strongly compliant after the request's trace.
pub record IsIdealRead (policy : Policy) (asker : Request) (queries its : List Query)
    : Type 0 where
  pub are : its ≡ queries
  pub compliant : All (IsCompliant policy asker) queries

-- The first of the read's queries that isn't strongly compliant after the request's trace is the
-- one with this index.
pub record IsIdealReadBlock (policy : Policy) (asker : Request) (queries its : List Query)
    (index : ℕ) : Type 0 where
  pub are : its ≡ queries
  pub front : List Query
  pub query : Query
  pub back : List Query
  pub parts : queries ≡ front ++ query ∷ back
  pub index_is : index ≡ length front
  pub compliant : All (IsCompliant policy asker) front
  pub uncompliant : ¬ (IsCompliant policy asker query)

-- what the reply to a read of these queries should be: that it is let through, or a block by a
-- refutation
abbrev pub IsIdealKeyReply : Policy → Request → List Query → KeyReply → Type 0
IsIdealKeyReply policy asker queries (key_reply.Allowed its by) =
    IsIdealRead policy asker queries its
IsIdealKeyReply policy asker queries (key_reply.Blocked its before (Refuted pair)) =
    IsIdealReadBlock policy asker queries its (length before)
IsIdealKeyReply policy asker queries (key_reply.Blocked its before (Spent steps)) = ⊥
IsIdealKeyReply policy asker queries (key_reply.Blocked its before (Stuck leaf clause)) = ⊥
IsIdealKeyReply policy asker queries key_reply.NoMemory = ⊥

-- The request as it stands after the earlier entries, over the input's tables: it has the context
-- of its begin line, and was told what these entries answer it.
pub record StandsOverInput (input : Input) (request : ℕ) (earlier : List Entry) (asker : Request)
    : Type 0 where
  pub context : HasContext input.script request asker.context
  pub version : asker.version ≡ 0
  pub tables : asker.tables ≡ input.tables
  pub trace : asker.trace ≡ trace_in request earlier

-- a question of the request, with the reply that it should have
pub record IsIdealAsk (input : Input) (earlier : List Entry) (request : ℕ) (text : List ℕ)
    (entry : Entry) : Type 0 where
  pub asker : Request
  pub stands : StandsOverInput input request earlier asker
  pub reply : Reply
  pub is : entry ≡ Ask request 0 reply
  pub ideal : IsIdealReply input.policy asker text reply

-- a read by the request of the key with this number, with the reply that it should have
pub record IsIdealKeyRead (input : Input) (earlier : List Entry) (request number : ℕ)
    (arguments : Context) (entry : Entry) : Type 0 where
  pub asker : Request
  pub stands : StandsOverInput input request earlier asker
  pub key : CacheKey
  pub key_is : slice_get input.policy.keys number ≡ Some key
  pub reply : KeyReply
  pub is : entry ≡ Read request 0 number reply
  pub ideal : IsIdealKeyReply input.policy asker (key_queries input.policy key arguments) reply

-- What should become of a line after earlier entries, all over the input's tables, which are
-- version 0. No line publishes others.
abbrev pub IsIdealAt : Input → List Entry → ScriptEntry → Entry → Type 0
IsIdealAt input earlier (said.Begin request name context) entry = entry ≡ Begin request 0
IsIdealAt input earlier (said.Ask request name text) entry =
    IsIdealAsk input earlier request text entry
IsIdealAt input earlier (said.Read request name key arguments questions) entry =
    IsIdealKeyRead input earlier request key arguments entry
IsIdealAt input earlier (said.End request name) entry = entry ≡ End request 0
IsIdealAt input earlier (said.Publish number set) entry = ⊥

-- Each question, in the order of the lines, is unread with its text's first fault; or answered by
-- its query's answer under its begin line's context in the input's tables, where the query is
-- strongly compliant after what its request was answered before; or blocked by a refutation, where
-- it isn't. Each read is let through where each of its queries is strongly compliant after what its
-- request was answered before, and else blocked by a refutation at the first that isn't.
pub record IsIdeal (input : Input) (journal : Journal) : Type 0 where
  pub lines : EachAfter (IsIdealAt input) [] input.script.entries journal.entries
