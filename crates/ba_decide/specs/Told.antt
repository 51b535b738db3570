-- What a request was told, by the lines alone, and what that says of its questions.
use Rattle.std.specs.Prelude.{◌≡◌, ℕ, ◌+◌, ◌<◌, ◌≤◌, List, ◌∷◌, ◌++◌, All, Ok, Some, slice_get, take, ⊤}
use Rattle.ba_comply.specs.declared.trace.TraceEntry.{TraceEntry}
use Rattle.ba_decide.specs.Journal.{Entry, said}
use Rattle.ba_event.specs.Events.{event_of}
use Rattle.ba_event.specs.declared.event.Event.{Event}
use Rattle.ba_event.specs.declared.event.Event.TheVariants as event
use Rattle.ba_judge.specs.Judging.{IsBlockedFor, IsStrong}
use Rattle.ba_judge.specs.declared.reading.Read.TheVariants as read
use Rattle.ba_judge.specs.declared.verdict.Allowed.{Allowed}
use Rattle.ba_judge.specs.declared.verdict.Reason.{Reason}
use Rattle.ba_keys.specs.Literals.{key_queries}
use Rattle.ba_live.specs.Laws.{GivesTold, LookAlike, RecordsTold, ToldRows}
use Rattle.ba_live.specs.Steps.{key_named}
use Rattle.ba_live.specs.declared.decision.Decision.{Decision}
use Rattle.ba_live.specs.declared.decision.Decision.TheVariants as decided
use Rattle.ba_model.specs.Conform.{Conforms}
use Rattle.ba_model.specs.Meaning.{InAnswer, IsAnswer}
use Rattle.ba_model.specs.declared.policy.CacheKey.{CacheKey}
use Rattle.ba_model.specs.declared.policy.Context.{Context}
use Rattle.ba_model.specs.declared.policy.Policy.{Policy}
use Rattle.ba_model.specs.declared.query.Query.{Query}
use Rattle.ba_model.specs.declared.value.RowSet.{RowSet}
use Rattle.ba_model.specs.declared.value.Value.{Value}
use Rattle.ba_script.specs.Contexts.{context_of}
use Rattle.ba_script.specs.declared.line.Member.{Member}
use Rattle.ba_send.specs.ReadBack.{ReadsSent}
use Rattle.ba_send.specs.Sent.{closed, sent_bytes}
use Rattle.ba_settle.specs.Settling.{Effort}
use Rattle.ba_sql_query.specs.Texts.{query_of}
use Rattle.ba_target.specs.declared.target.Target.{Target}

-- the entry at this place, from 0, says the event, and has the decision
pub record At (journal : List Entry) (place : ℕ) (it : Event) (decision : Decision) : Type 0 where
  pub entry : Entry
  pub there : slice_get journal place ≡ Some entry
  pub bytes : List ℕ
  pub heard : entry.heard ≡ said bytes
  pub says : event_of bytes ≡ Ok it
  pub decision_is : entry.decision ≡ decision

-- the name was begun or ended at this place
pub data Turns (journal : List Entry) (name : List ℕ) (place : ℕ) : Type 0 where
  begins : (members : List Member) → At journal place (event.Begin name members) decided.Begun →
      Turns journal name place
  ends : At journal place (event.End name) decided.Ended → Turns journal name place

-- the request that is open under the name began at this place, with this context
pub record BeganAt (policy : Policy) (journal : List Entry) (name : List ℕ) (context : Context)
    (place : ℕ) : Type 0 where
  pub members : List Member
  pub at : At journal place (event.Begin name members) decided.Begun
  pub context_is : context_of policy.params members ≡ Some context
  pub last : (later : ℕ) → place < later → Turns journal name later → ⊥

-- the line of this number asks the query, of the request that began at this place, and is allowed
pub record WasAllowed (policy : Policy) (journal : List Entry) (name : List ℕ) (began line : ℕ)
    (query : Query) : Type 0 where
  pub place : ℕ
  pub line_is : line ≡ place + 1
  pub after : began < place
  pub text : List ℕ
  pub by : Allowed
  pub send : List ℕ
  pub asks : At journal place (event.Ask name text) (decided.Allowed by send)
  pub reads : query_of policy.schema policy.params text ≡ Ok query

-- the rows of such a line were recorded, or, where there was no memory for all of them, a front
abbrev pub MayRecord : Decision → Type 0
MayRecord decided.Told = ⊤
MayRecord decided.Memory = ⊤
MayRecord _ = ⊥

-- A later line told these rows of an allowed question of the request, and wasn't refused.
pub record WasTold (policy : Policy) (journal : List Entry) (name : List ℕ) (began : ℕ)
    (it : ToldRows) : Type 0 where
  pub line : ℕ
  pub allowed : WasAllowed policy journal name began line it.query
  pub place : ℕ
  pub later : line ≤ place
  pub decision : Decision
  pub recorded : MayRecord decision
  pub tells : At journal place (event.Told line it.rows) decision

-- The request that is open under the name after these lines has this context, and this trace, in
-- which nothing is recorded but what it was told in these lines.
pub record IsAsker (policy : Policy) (journal : List Entry) (name : List ℕ) (context : Context)
    (trace : List TraceEntry) : Type 0 where
  pub began : ℕ
  pub request : BeganAt policy journal name context began
  pub told : List ToldRows
  pub were : All (WasTold policy journal name began) told
  pub records : RecordsTold policy context told trace

-- After these lines the query, asked by the request that is open under the name, is strongly
-- compliant, and so has one answer in any two databases that the user can't tell apart after the
-- rows that were recorded.
pub record IsSafe (policy : Policy) (journal : List Entry) (name : List ℕ) (query : Query)
    : Type 0 where
  pub context : Context
  pub trace : List TraceEntry
  pub asker : IsAsker policy journal name context trace
  pub strong : IsStrong
      (record { policy = policy; context = context; trace = trace; query = query })
  pub one_answer : (d e : RowSet) (xs ys : List (List Value)) →
      LookAlike policy context asker.told d e →
      IsAnswer query context d xs → IsAnswer query context e ys → xs ≡ ys

-- It is safe, and what is sent is its print for the database, which by the grammar of questions, over
-- this database's tokens, is read as the query, with the values of the request's context in place of
-- its parameters.
pub record IsSent (target : Target) (policy : Policy) (journal : List Entry) (name : List ℕ)
    (query : Query) (send : List ℕ) : Type 0 where
  pub safe : IsSafe policy journal name query
  pub printed : send ≡ sent_bytes target policy.schema safe.context query
  pub reads : ReadsSent target policy.schema send (closed safe.context query)

-- No database that meets the schema gives all rows that the request, which is open under the name
-- after these lines, was told.
pub record IsContradicted (policy : Policy) (journal : List Entry) (name : List ℕ) : Type 0 where
  pub context : Context
  pub trace : List TraceEntry
  pub asker : IsAsker policy journal name context trace
  pub none : (d : RowSet) → Conforms policy.schema d → GivesTold context asker.told d → ⊥

-- No such database gives these and the rows of the allowed question of the line.
pub record ContradictsTold (policy : Policy) (journal : List Entry) (line : ℕ)
    (rows : List (List Value)) : Type 0 where
  pub name : List ℕ
  pub query : Query
  pub context : Context
  pub trace : List TraceEntry
  pub asker : IsAsker policy journal name context trace
  pub allowed : WasAllowed policy journal name asker.began line query
  pub none : (d : RowSet) → Conforms policy.schema d → GivesTold context asker.told d →
      All (InAnswer query context d) rows → ⊥

-- it isn't covered, and is blocked for this reason
pub record IsDenied (policy : Policy) (effort : Effort) (journal : List Entry) (name : List ℕ)
    (query : Query) (reason : Reason) : Type 0 where
  pub context : Context
  pub trace : List TraceEntry
  pub asker : IsAsker policy journal name context trace
  pub blocked : IsBlockedFor
      (record { policy = policy; context = context; trace = trace; query = query }) effort reason

-- of the text's query this is so
abbrev pub OfText : Policy → List ℕ → (Query → Type 0) → Type 0
OfText policy text P =
    (query : Query) × (query_of policy.schema policy.params text ≡ Ok query) × P query

-- the queries are those of the policy's key of this name, with these arguments
pub record AreOfKey (policy : Policy) (key : List ℕ) (members : List Member) (queries : List Query)
    : Type 0 where
  pub found : CacheKey
  pub named : key_named key policy.keys ≡ Some found
  pub arguments : Context
  pub given : context_of found.arguments members ≡ Some arguments
  pub queries_are : queries ≡ key_queries policy found arguments

-- The queries in front are safe, and the next one is denied for this reason.
pub record IsReadDenied (policy : Policy) (effort : Effort) (journal : List Entry) (name : List ℕ)
    (queries : List Query) (reason : Reason) : Type 0 where
  pub front : List Query
  pub query : Query
  pub back : List Query
  pub are : queries ≡ front ++ query ∷ back
  pub safe : All (IsSafe policy journal name) front
  pub denied : IsDenied policy effort journal name query reason

-- Each allowed question is safe after the lines before it, and the text that is sent is its print and
-- is read as it; so is each query of a key that may be read safe; each block has its reason, and of a
-- key's queries the first that is blocked has it; and a contradiction is one.
pub record Headline (policy : Policy) (target : Target) (effort : Effort) (journal : List Entry)
    : Type 0 where
  pub allowed : (place : ℕ) (name text : List ℕ) (by : Allowed) (send : List ℕ) →
      At journal place (event.Ask name text) (decided.Allowed by send) →
      OfText policy text (λ query. IsSent target policy (take place journal) name query send)
  pub blocked : (place : ℕ) (name text : List ℕ) (reason : Reason) →
      At journal place (event.Ask name text) (decided.Blocked reason) →
      OfText policy text (λ query. IsDenied policy effort (take place journal) name query reason)
  pub read_blocked : (place : ℕ) (name key : List ℕ) (members : List Member)
      (queries : List Query) (by : List Allowed) (reason : Reason) →
      At journal place (event.Read name key members)
      (decided.Read (read.Blocked queries by reason)) →
      AreOfKey policy key members queries
      × IsReadDenied policy effort (take place journal) name queries reason
  pub read : (place : ℕ) (name key : List ℕ) (members : List Member) (queries : List Query)
      (by : List Allowed) →
      At journal place (event.Read name key members) (decided.Read (read.Allowed queries by)) →
      AreOfKey policy key members queries × All (IsSafe policy (take place journal) name) queries
  pub contradicted : (place : ℕ) (name text : List ℕ) →
      At journal place (event.Ask name text) decided.Contradiction →
      IsContradicted policy (take place journal) name
  pub read_contradicted : (place : ℕ) (name key : List ℕ) (members : List Member) →
      At journal place (event.Read name key members) decided.Contradiction →
      IsContradicted policy (take place journal) name
  pub told_contradicted : (place line : ℕ) (rows : List (List Value)) →
      At journal place (event.Told line rows) decided.Contradiction →
      ContradictsTold policy (take place journal) line rows
