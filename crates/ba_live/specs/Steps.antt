-- Which decision an event has, and what it leaves.
use Rattle.std.specs.Prelude.{◌≡◌, ◌⊎◌, ℕ, ◌+◌, ◌<◌, ◌≤◌, Bool, true, false, List, [], ◌∷◌, length, Option, Some, None, Ok, Err, if◌then◌else◌, ⊤}
use Rattle.std.specs.Str.{bytes_eq}
use Rattle.ba_comply.specs.declared.trace.TraceEntry.{TraceEntry}
use Rattle.ba_event.specs.declared.event.Event.{Event}
use Rattle.ba_event.specs.declared.event.Event.TheVariants as event
use Rattle.ba_judge.specs.Judging.{Asked as Question, IsBlockedFor, IsStrong, PrefersWeaker, RestsOn}
use Rattle.ba_judge.specs.Reading.{JudgesRead, Reader}
use Rattle.ba_judge.specs.declared.reading.Read.{Read}
use Rattle.ba_judge.specs.declared.verdict.Allowed.{Allowed}
use Rattle.ba_judge.specs.declared.verdict.Judgement.TheVariants as judged
use Rattle.ba_judge.specs.declared.verdict.Reason.{Reason}
use Rattle.ba_keys.specs.Literals.{key_queries}
use Rattle.ba_model.specs.declared.policy.CacheKey.{CacheKey}
use Rattle.ba_model.specs.declared.policy.Context.{Context}
use Rattle.ba_model.specs.declared.policy.Policy.{Policy}
use Rattle.ba_model.specs.declared.query.Query.{Query}
use Rattle.ba_model.specs.declared.value.Value.{Value}
use Rattle.ba_parts.specs.Recording.{AreEntries, HasMisfit}
use Rattle.ba_script.specs.Contexts.{context_of}
use Rattle.ba_script.specs.declared.line.Member.{Member}
use Rattle.ba_settle.specs.Settling.{Effort}
use Rattle.ba_sql_query.specs.Texts.{query_of}
use Rattle.ba_sql_query.specs.declared.fault.ReadQueryFault.{ReadQueryFault}
use Rattle.ba_contradict.specs.Contradictions.{Contradicted}
use Rattle.ba_judge.specs.declared.reading.Read.TheVariants as read
use Rattle.ba_judge.specs.declared.verdict.Reason.TheVariants as why
use Rattle.ba_kernel.specs.declared.step.Step.{Step}
use Rattle.ba_send.specs.ReadBack.{ReadsSent}
use Rattle.ba_send.specs.Sendable.{IsUnsendable}
use Rattle.ba_send.specs.Sent.{closed, sent_bytes}
use Rattle.ba_send.specs.declared.fault.Unsendable.{Unsendable}
use Rattle.ba_send.specs.declared.fault.Unsendable.TheVariants as unsendable
use Rattle.ba_live.specs.Askers.{asked_more, closed_now, new_open, with_line, with_told}
use Rattle.ba_live.specs.Contradicting.{IsClear, IsFound}
use Rattle.ba_live.specs.Books.{Expects, Forgets, HasFront, LeavesAll, LeavesAsked, Opens, asked_at, many_open, open_at}
use Rattle.ba_live.specs.Limits.{most_open, most_open_asks, most_told_rows}
use Rattle.ba_live.specs.declared.decision.Decision.{Decision}
use Rattle.ba_live.specs.declared.decision.Decision.TheVariants as decided
use Rattle.ba_live.specs.declared.decision.Refusal.{Refusal}
use Rattle.ba_live.specs.declared.decision.Refusal.TheVariants as refusal
use Rattle.ba_live.specs.declared.live.Live.{Live}
use Rattle.ba_live.specs.declared.open.Asked.{Asked}
use Rattle.ba_live.specs.declared.open.Open.{Open}

-- the query, asked by what is open after what it was told
abbrev pub question_in : Policy → Open → Query → Question
question_in policy asker query = record {
  policy = policy;
  context = asker.context;
  trace = asker.trace;
  query = query;
}

-- ---- begin and end

pub record Begins (name : List ℕ) (members : List Member) (old new : Live) : Type 0 where
  pub free : open_at old name ≡ None
  pub few : many_open old.requests < most_open
  pub context : Context
  pub context_is : context_of old.policy.params members ≡ Some context
  pub opens : Opens name (Some (new_open context)) old.requests new.requests
  pub asked : LeavesAsked old.questions new.questions

-- why a begin line changes nothing
abbrev pub RefusesBegin : Live → List ℕ → List Member → Refusal → Type 0
RefusesBegin it name members refusal.Begun = (asker : Open) × (open_at it name ≡ Some asker)
RefusesBegin it name members refusal.Context =
    (open_at it name ≡ None) × (context_of it.policy.params members ≡ None)
RefusesBegin it name members refusal.Requests =
    (open_at it name ≡ None) ×
    ((context : Context) × (context_of it.policy.params members ≡ Some context)) ×
    (most_open ≤ many_open it.requests)
RefusesBegin it name members _ = ⊥

abbrev pub DecidesBegin : List ℕ → List Member → Decision → Live → Live → Type 0
DecidesBegin name members decided.Begun old new = Begins name members old new
DecidesBegin name members (decided.Refused why) old new =
    RefusesBegin old name members why × LeavesAll old new
DecidesBegin name members _ old new = ⊥

pub record Ends (name : List ℕ) (old new : Live) : Type 0 where
  pub asker : Open
  pub was_open : open_at old name ≡ Some asker
  pub closes : Opens name None old.requests new.requests
  pub forgets : Forgets name old.questions new.questions

abbrev pub RefusesEnd : Live → List ℕ → Refusal → Type 0
RefusesEnd it name refusal.Unbegun = open_at it name ≡ None
RefusesEnd it name _ = ⊥

abbrev pub DecidesEnd : List ℕ → Decision → Live → Live → Type 0
DecidesEnd name decided.Ended old new = Ends name old new
DecidesEnd name (decided.Refused why) old new = RefusesEnd old name why × LeavesAll old new
DecidesEnd name _ old new = ⊥

-- ---- questions

-- a request of the name is open, and wasn't closed
pub record IsServed (it : Live) (name : List ℕ) (asker : Open) : Type 0 where
  pub is_open : open_at it name ≡ Some asker
  pub not_closed : asker.closed ≡ false

-- it may ask one question more, and the text reads as this query
pub record MayAskText (it : Live) (name text : List ℕ) (asker : Open) (query : Query) : Type 0 where
  pub served : IsServed it name asker
  pub few : asker.asks < most_open_asks
  pub reads : query_of it.policy.schema it.policy.params text ≡ Ok query

-- The text is a question of the open request: its query is allowed on this evidence, and strongly
-- compliant after what the request was told. It may be told from now on. What may be sent reads as
-- the query, with the context's values in place of its parameters.
pub record Allows (effort : Effort) (line : ℕ) (name text : List ℕ) (it : Allowed)
    (send : List ℕ) (old new : Live) : Type 0 where
  pub asker : Open
  pub query : Query
  pub may : MayAskText old name text asker query
  pub sent : send ≡ sent_bytes old.target old.policy.schema asker.context query
  pub reads_back : ReadsSent old.target old.policy.schema send (closed asker.context query)
  pub rests : RestsOn (question_in old.policy asker query) effort it
  pub strong : IsStrong (question_in old.policy asker query)
  pub prefers : PrefersWeaker (question_in old.policy asker query) effort old.shelves
      (judged.Allowed it)
  pub opens : Opens name (Some (with_line line asker)) old.requests new.requests
  pub expects : Expects line (Some (record { name = name; query = query }))
      old.questions new.questions

-- what becomes of a question that isn't allowed: it counts as asked
pub record CountsAsk (name : List ℕ) (asker : Open) (old new : Live) : Type 0 where
  pub served : IsServed old name asker
  pub few : asker.asks < most_open_asks
  pub opens : Opens name (Some (asked_more 1 asker)) old.requests new.requests
  pub asked : LeavesAsked old.questions new.questions

-- it blocks a question, and says nothing against what was told
abbrev pub IsOfQuestion : Reason → Type 0
IsOfQuestion (why.Contradiction steps) = ⊥
IsOfQuestion _ = ⊤

abbrev pub IsContradiction : Reason → Type 0
IsContradiction (why.Contradiction steps) = ⊤
IsContradiction _ = ⊥

-- whether it says that what was told contradicts itself
abbrev pub SaysContradiction : Bool → Reason → Type 0
SaysContradiction true it = IsContradiction it
SaysContradiction false it = IsOfQuestion it

pub record Blocks (effort : Effort) (name text : List ℕ) (it : Reason) (old new : Live)
    : Type 0 where
  pub asker : Open
  pub counts : CountsAsk name asker old new
  pub query : Query
  pub reads : query_of old.policy.schema old.policy.params text ≡ Ok query
  pub of_question : IsOfQuestion it
  pub blocked : IsBlockedFor (question_in old.policy asker query) effort it
  pub prefers : PrefersWeaker (question_in old.policy asker query) effort old.shelves
      (judged.Blocked it)

pub record FailsToRead (name text : List ℕ) (fault : ReadQueryFault) (old new : Live) : Type 0 where
  pub asker : Open
  pub counts : CountsAsk name asker old new
  pub reads : query_of old.policy.schema old.policy.params text ≡ Err fault

-- the request of the name can only end from now on, and else nothing changes
pub record Closes (name : List ℕ) (asker : Open) (old new : Live) : Type 0 where
  pub opens : Opens name (Some (closed_now asker)) old.requests new.requests
  pub asked : LeavesAsked old.questions new.questions

-- A question would be allowed by a search, but what the request was told alone can be in no database,
-- as these steps show. The request is closed.
pub record FindsAsking (effort : Effort) (name text : List ℕ) (old new : Live) : Type 0 where
  pub asker : Open
  pub query : Query
  pub may : MayAskText old name text asker query
  pub steps : List Step
  pub contradicted : Contradicted old.policy asker.context asker.trace effort steps
  pub closes : Closes name asker old new

-- the request was closed
abbrev pub WasClosed : Live → List ℕ → Type 0
WasClosed it name = (asker : Open) × (open_at it name ≡ Some asker) × (asker.closed ≡ true)

-- the text is a query that isn't sent, for this reason
pub record IsUnsent (it : Live) (name text : List ℕ) (why : Unsendable) : Type 0 where
  pub asker : Open
  pub query : Query
  pub may : MayAskText it name text asker query
  pub unsendable : IsUnsendable it.target it.policy.schema asker.context query why

abbrev pub RefusesAsk : Live → List ℕ → List ℕ → Refusal → Type 0
RefusesAsk it name text refusal.Unbegun = open_at it name ≡ None
RefusesAsk it name text refusal.Closed = WasClosed it name
RefusesAsk it name text refusal.Asks =
    (asker : Open) × IsServed it name asker × (most_open_asks ≤ asker.asks)
RefusesAsk it name text refusal.NullTest = IsUnsent it name text unsendable.NullTest
RefusesAsk it name text refusal.ZeroByte = IsUnsent it name text unsendable.ZeroByte
RefusesAsk it name text refusal.LongSend = IsUnsent it name text unsendable.TooLong
RefusesAsk it name text _ = ⊥

abbrev pub DecidesAsk : Effort → ℕ → List ℕ → List ℕ → Decision → Live → Live → Type 0
DecidesAsk effort line name text (decided.Allowed it send) old new =
    Allows effort line name text it send old new
DecidesAsk effort line name text decided.Contradiction old new =
    FindsAsking effort name text old new
DecidesAsk effort line name text (decided.Blocked it) old new = Blocks effort name text it old new
DecidesAsk effort line name text (decided.Unread fault) old new =
    FailsToRead name text fault old new
DecidesAsk effort line name text (decided.Refused why) old new =
    RefusesAsk old name text why × LeavesAll old new
DecidesAsk effort line name text _ old new = ⊥

-- ---- reads of cache keys

-- the key of the name
abbrev pub key_named : List ℕ → List CacheKey → Option CacheKey
key_named name [] = None
key_named name (key ∷ keys) = if bytes_eq key.name name then Some key else key_named name keys

-- what is open, as it asks
abbrev pub reader_in : Policy → Open → Reader
reader_in policy asker = record { policy = policy; context = asker.context; trace = asker.trace }

-- the name is that of a key of the policy, for which these are the arguments
pub record IsKeyRead (it : Live) (key : List ℕ) (members : List Member) (found : CacheKey)
    (arguments : Context) : Type 0 where
  pub named : key_named key it.policy.keys ≡ Some found
  pub given : context_of found.arguments members ≡ Some arguments

-- what blocks it, if it is blocked, says nothing against what was told
abbrev pub IsReadOfQuestion : Read → Type 0
IsReadOfQuestion (read.Allowed queries by) = ⊤
IsReadOfQuestion (read.Blocked queries before reason) = IsOfQuestion reason

-- what blocks it says that what was told contradicts itself
abbrev pub IsContradictedRead : Read → Type 0
IsContradictedRead (read.Allowed queries by) = ⊥
IsContradictedRead (read.Blocked queries before reason) = IsContradiction reason

abbrev pub Contradicts : Bool → Read → Type 0
Contradicts true it = IsContradictedRead it
Contradicts false it = IsReadOfQuestion it

-- The key's queries, with the arguments as literals, are judged after what the request was told,
-- each by itself. Each counts as a question.
pub record Reads (effort : Effort) (name key : List ℕ) (members : List Member) (it : Read)
    (old new : Live) : Type 0 where
  pub asker : Open
  pub served : IsServed old name asker
  pub found : CacheKey
  pub arguments : Context
  pub is_key : IsKeyRead old key members found arguments
  pub few : asker.asks + length found.queries ≤ most_open_asks
  pub judged : JudgesRead (reader_in old.policy asker) effort old.shelves
      (key_queries old.policy found arguments) it
  pub of_question : IsReadOfQuestion it
  pub opens : Opens name (Some (asked_more (length found.queries) asker)) old.requests new.requests
  pub asked : LeavesAsked old.questions new.questions

-- One of them would be allowed by a search, but what the request was told alone can be in no
-- database, as these steps show. The request is closed.
pub record FindsReading (effort : Effort) (name key : List ℕ) (members : List Member)
    (old new : Live) : Type 0 where
  pub asker : Open
  pub served : IsServed old name asker
  pub found : CacheKey
  pub arguments : Context
  pub is_key : IsKeyRead old key members found arguments
  pub few : asker.asks + length found.queries ≤ most_open_asks
  pub steps : List Step
  pub contradicted : Contradicted old.policy asker.context asker.trace effort steps
  pub closes : Closes name asker old new

-- the key's queries are more than the open request may ask
pub record AsksTooMuch (it : Live) (name key : List ℕ) (members : List Member) : Type 0 where
  pub asker : Open
  pub served : IsServed it name asker
  pub found : CacheKey
  pub arguments : Context
  pub is_key : IsKeyRead it key members found arguments
  pub many : most_open_asks < asker.asks + length found.queries

abbrev pub RefusesRead : Live → List ℕ → List ℕ → List Member → Refusal → Type 0
RefusesRead it name key members refusal.Unbegun = open_at it name ≡ None
RefusesRead it name key members refusal.Closed = WasClosed it name
RefusesRead it name key members refusal.Key =
    ((asker : Open) × IsServed it name asker) × (key_named key it.policy.keys ≡ None)
RefusesRead it name key members refusal.Args =
    ((asker : Open) × IsServed it name asker) ×
    ((found : CacheKey) × (key_named key it.policy.keys ≡ Some found) ×
    (context_of found.arguments members ≡ None))
RefusesRead it name key members refusal.Asks = AsksTooMuch it name key members
RefusesRead it name key members _ = ⊥

abbrev pub DecidesRead : Effort → List ℕ → List ℕ → List Member → Decision → Live → Live → Type 0
DecidesRead effort name key members (decided.Read it) old new =
    Reads effort name key members it old new
DecidesRead effort name key members decided.Contradiction old new =
    FindsReading effort name key members old new
DecidesRead effort name key members (decided.Refused why) old new =
    RefusesRead old name key members why × LeavesAll old new
DecidesRead effort name key members _ old new = ⊥

-- ---- told rows

-- an allowed question of an open request, which may be told
pub record MayBeTold (it : Live) (told : ℕ) (question : Asked) (asker : Open) : Type 0 where
  pub was_asked : asked_at it told ≡ Some question
  pub served : IsServed it question.name asker

-- The entries join the request's trace, and the line may not be told any more. They aren't found to
-- contradict what was told before, or each other.
pub record Tells (effort : Effort) (told : ℕ) (rows : List (List Value)) (old new : Live) : Type 0
  where
    pub question : Asked
    pub asker : Open
    pub may : MayBeTold old told question asker
    pub few : length rows ≤ most_told_rows
    pub entries : List TraceEntry
    pub are : AreEntries old.policy.schema asker.context question.query rows entries
    pub clear : IsClear old.policy effort asker.context asker.trace entries
    pub opens : Opens question.name (Some (with_told told entries asker)) old.requests new.requests
    pub expects : Expects told None old.questions new.questions

-- They are found to. The request is closed.
pub record FindsTelling (effort : Effort) (told : ℕ) (rows : List (List Value)) (old new : Live)
    : Type 0 where
  pub question : Asked
  pub asker : Open
  pub may : MayBeTold old told question asker
  pub few : length rows ≤ most_told_rows
  pub entries : List TraceEntry
  pub are : AreEntries old.policy.schema asker.context question.query rows entries
  pub found : IsFound old.policy effort asker.context asker.trace entries
  pub closes : Closes question.name asker old new

-- the line is no allowed question of an open request that may still be told
abbrev pub IsUnasked : Live → ℕ → Type 0
IsUnasked it told = asked_at it told ≡ None

-- one of the rows can be of no part of the question
pub record TellsMisfit (it : Live) (told : ℕ) (rows : List (List Value)) : Type 0 where
  pub question : Asked
  pub asker : Open
  pub may : MayBeTold it told question asker
  pub few : length rows ≤ most_told_rows
  pub misfit : HasMisfit it.policy.schema asker.context question.query rows

abbrev pub RefusesTold : Live → ℕ → List (List Value) → Refusal → Type 0
RefusesTold it told rows refusal.Unasked = IsUnasked it told
RefusesTold it told rows refusal.Closed =
    (question : Asked) × (asked_at it told ≡ Some question) × WasClosed it question.name
RefusesTold it told rows refusal.Rows =
    ((question : Asked) × (asker : Open) × MayBeTold it told question asker) ×
    (most_told_rows < length rows)
RefusesTold it told rows refusal.Misfit = TellsMisfit it told rows
RefusesTold it told rows _ = ⊥

abbrev pub DecidesTold : Effort → ℕ → List (List Value) → Decision → Live → Live → Type 0
DecidesTold effort told rows decided.Told old new = Tells effort told rows old new
DecidesTold effort told rows decided.Contradiction old new =
    FindsTelling effort told rows old new
DecidesTold effort told rows (decided.Refused why) old new =
    RefusesTold old told rows why × LeavesAll old new
DecidesTold effort told rows _ old new = ⊥

-- For want of memory a front of what was to be recorded may have joined the trace. The question may
-- be told again.
pub record TellsPart (told : ℕ) (rows : List (List Value)) (old new : Live) : Type 0 where
  pub question : Asked
  pub asker : Open
  pub may : MayBeTold old told question asker
  pub entries : List TraceEntry
  pub are : AreEntries old.policy.schema asker.context question.query rows entries
  pub front : HasFront entries question.name asker old.requests new.requests
  pub asked : LeavesAsked old.questions new.questions

abbrev pub LacksTold : ℕ → List (List Value) → Live → Live → Type 0
LacksTold told rows old new = LeavesAll old new ⊎ TellsPart told rows old new

-- ---- decisions

-- nothing changes for want of memory, but that told rows may have been recorded in part
abbrev pub Lacks : Event → Live → Live → Type 0
Lacks (event.Begin name members) old new = LeavesAll old new
Lacks (event.Ask name text) old new = LeavesAll old new
Lacks (event.Read name key members) old new = LeavesAll old new
Lacks (event.Told told rows) old new = LacksTold told rows old new
Lacks (event.End name) old new = LeavesAll old new

abbrev pub Does : Effort → ℕ → Event → Decision → Live → Live → Type 0
Does effort line (event.Begin name members) it old new = DecidesBegin name members it old new
Does effort line (event.Ask name text) it old new = DecidesAsk effort line name text it old new
Does effort line (event.Read name key members) it old new =
    DecidesRead effort name key members it old new
Does effort line (event.Told told rows) it old new = DecidesTold effort told rows it old new
Does effort line (event.End name) it old new = DecidesEnd name it old new

-- The decision on the event of this line: what it does, or why it changes nothing; or want of
-- memory.
abbrev pub Decides : Effort → ℕ → Event → Decision → Live → Live → Type 0
Decides effort line it decided.Memory old new = Lacks it old new
Decides effort line it decision old new = Does effort line it decision old new

-- the policy, the database and the budget stay
pub record Stays (old new : Live) : Type 0 where
  pub policy : new.policy ≡ old.policy
  pub target : new.target ≡ old.target
  pub budget : new.budget ≡ old.budget
