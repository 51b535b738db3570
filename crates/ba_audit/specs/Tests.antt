-- The tests of one printed line, each by its name, and the first that it fails.
use Rattle.std.specs.Prelude.{◌≡◌, ◌≢◌, ◌⊎◌, ℕ, ◌+◌, ◌<◌, ◌≤◌, ◌==◌, ◌&&◌, ◌||◌, List, [], ◌∷◌, Bool, true, false, not, IsTrue, Option, Some, None, Result, Ok, Err, is_some, length, nat_lt, slice_get}
use Rattle.std.specs.List.{AllZip, list_any}
use Rattle.std.specs.Str.{bytes_eq}
use Rattle.ba_comply.specs.declared.trace.TraceEntry.{TraceEntry}
use Rattle.ba_direct.specs.Cover.{Covered, IsCover}
use Rattle.ba_kernel.specs.Problems.{problem_of}
use Rattle.ba_kernel.specs.Replays.{Closes}
use Rattle.ba_kernel.specs.declared.problem.Problem.{Problem}
use Rattle.ba_kernel.specs.declared.step.Step.{Step}
use Rattle.ba_model.specs.Limits.{most_steps}
use Rattle.ba_model.specs.Meaning.{IsAnswer}
use Rattle.ba_model.specs.declared.policy.CacheKey.{CacheKey}
use Rattle.ba_model.specs.declared.policy.Policy.{Policy}
use Rattle.ba_model.specs.declared.query.Query.{Query}
use Rattle.ba_model.specs.declared.value.Value.{Value}
use Rattle.ba_refute.specs.Counterexamples.{IsCounterexample}
use Rattle.ba_script.specs.declared.entry.ScriptEntry.{ScriptEntry}
use Rattle.ba_script.specs.declared.entry.ScriptEntry.TheVariants as said
use Rattle.ba_sql_query.specs.declared.fault.ReadQueryFault.{ReadQueryFault}
use Rattle.ba_printed.specs.declared.line.Evidence.{Evidence}
use Rattle.ba_printed.specs.declared.line.Evidence.TheVariants as evidence
use Rattle.ba_printed.specs.declared.line.LineReason.TheVariants as unreadable
use Rattle.ba_printed.specs.declared.line.PrintedBlock.{PrintedBlock}
use Rattle.ba_printed.specs.declared.line.PrintedBlock.TheVariants as blocked
use Rattle.ba_printed.specs.declared.line.PrintedLine.{PrintedLine}
use Rattle.ba_printed.specs.declared.line.PrintedLine.TheVariants as printed
use Rattle.ba_wire.specs.declared.summary.Summary.{Summary}
use Rattle.ba_audit.specs.Lines.{Basis, Line, Place, Reading, asked_over, asker_in, begin_in, begun_over, end_in, entry, is_memory, key_at, key_in, number_in, published_as, queries_read, reader_in, reading_of, request_after, set_in, summary_of, tables_of, total, unread_in, used_in}
use Rattle.ba_audit.specs.declared.numbered.Numbered.{Numbered}
use Rattle.ba_wire.specs.declared.audit.AuditReason.{AuditReason as Reason}
use Rattle.ba_wire.specs.declared.audit.AuditReason.TheVariants.{Count, Json, Shape, Kind, Version, Unread, By, Covered as CoveredReason, Rows, Proof, Pair, Summary as SummaryReason}
use Rattle.ba_audit.specs.declared.request.Asker.{Asker}
use Rattle.ba_audit.specs.declared.request.Begun.{Begun}
use Rattle.ba_audit.specs.declared.request.Begun.TheVariants.{Silent, Asking}

-- ---- kind: form, name and number are those of the script's line; of a request begun with a memory
-- line there are only memory lines

abbrev pub is_name : Option (List ℕ) → List ℕ → Bool
is_name None name = false
is_name (Some other) name = bytes_eq other name

-- A read that is let through has as many members in `by` and in `proof` as the key has queries, and
-- a block is of one of them.
unfoldable pub is_within : ℕ → PrintedLine → Bool
is_within queries (printed.Read it key line read version) = length it == queries
is_within queries (printed.ReadBlock why key line query read version) = nat_lt query queries
is_within queries line = true

-- it names the key, and is within its queries
abbrev pub is_key : Option CacheKey → PrintedLine → Bool
is_key None line = false
is_key (Some key) line = is_name (key_in line) key.name && is_within (length key.queries) line

-- the printed line is of the entry's form, under its name
unfoldable pub has_form : Policy → ScriptEntry → PrintedLine → Bool
has_form policy (said.Begin request name context) line = is_name (begin_in line) name
has_form policy (said.Ask request name text) line = is_name (asker_in line) name
has_form policy (said.Read request name key arguments questions) line =
    is_name (reader_in line) name && is_key (key_at policy key) line
has_form policy (said.End request name) line = is_name (end_in line) name
has_form policy (said.Publish number set) line = is_name (set_in line) set

abbrev pub is_number : Option ℕ → ℕ → Bool
is_number None n = false
is_number (Some m) n = m == n

-- the request is begun, and where there was no memory for that, there is none for this line
abbrev pub may_go_on : Option Begun → PrintedLine → Bool
may_go_on None line = false
may_go_on (Some Silent) line = is_memory line
may_go_on (Some (Asking asker)) line = true

unfoldable pub may_follow : ScriptEntry → Option Begun → PrintedLine → Bool
may_follow (said.Begin request name context) held line = true
may_follow (said.Ask request name text) held line = may_go_on held line
may_follow (said.Read request name key arguments questions) held line = may_go_on held line
may_follow (said.End request name) held line = may_go_on held line
may_follow (said.Publish number set) held line = true

abbrev pub is_kind : Policy → ScriptEntry → ℕ → Option Begun → PrintedLine → Bool
is_kind policy e number held line =
    (is_memory line || has_form policy e line)
    && (is_number (number_in line) number && may_follow e held line)

-- ---- version

-- a set is published under a number from 1 to the number of printed publications, unused so far
abbrev pub may_publish : List Numbered → List Numbered → Option ℕ → Bool
may_publish numbered used None = true
may_publish numbered used (Some version) =
    nat_lt 0 version && (nat_lt version (length numbered) && not (list_any (λ it. it.version == version) used))

-- a request begins over a version that there is
abbrev pub may_begin : Basis → Option ℕ → Bool
may_begin basis None = true
may_begin basis (Some version) = is_some (tables_of basis version)

-- a question is asked, and a key read, over the version that its request began over
abbrev pub may_ask : Option Begun → Option ℕ → Bool
may_ask (Some (Asking asker)) (Some version) = asker.version == version
may_ask held version = true

unfoldable pub is_version : Basis → List Numbered → Option Begun → ScriptEntry → PrintedLine → Bool
is_version basis used held (said.Begin request name context) line = may_begin basis (begun_over line)
is_version basis used held (said.Ask request name text) line = may_ask held (asked_over line)
is_version basis used held (said.Read request name key arguments questions) line =
    may_ask held (asked_over line)
is_version basis used held (said.End request name) line = true
is_version basis used held (said.Publish number set) line = may_publish basis.numbered used (published_as line)

-- ---- answers and blocks

-- the problem of a question of the request
abbrev pub question : Policy → Asker → Query → Problem
question policy asker q = problem_of policy asker.context asker.trace q

-- an answer is by cover exactly where the question is covered
abbrev pub IsRightlyBy : Policy → Asker → Query → Evidence → Type 0
IsRightlyBy policy asker q (evidence.Cover cover) = Covered policy asker.context q
IsRightlyBy policy asker q (evidence.Template steps) = Covered policy asker.context q → ⊥
IsRightlyBy policy asker q (evidence.Proof steps) = Covered policy asker.context q → ⊥

-- the steps are not too many, are accepted in turn from the start of the question's problem, and
-- leave no branch open
pub record IsProof (policy : Policy) (asker : Asker) (q : Query) (steps : List Step) : Type 0 where
  pub few : length steps ≤ most_steps
  pub closes : Closes (question policy asker q) steps

-- each part's view covers it by its pairing, or the steps are a proof
abbrev pub IsProved : Policy → Asker → Query → Evidence → Type 0
IsProved policy asker q (evidence.Cover cover) = IsCover policy asker.context q cover
IsProved policy asker q (evidence.Template steps) = IsProof policy asker q steps
IsProved policy asker q (evidence.Proof steps) = IsProof policy asker q steps

-- a pair is a counterexample to strong compliance after the request's earlier answers
abbrev pub IsRefuted : Policy → Asker → Query → PrintedBlock → Type 0
IsRefuted policy asker q (blocked.Refuted pair) = IsCounterexample policy asker.context asker.trace q pair
IsRefuted policy asker q (blocked.Spent steps) = Unit {0}
IsRefuted policy asker q (blocked.Stuck clause) = Unit {0}

-- what each test asks of an answer
abbrev pub MeetsAnswer : Policy → Asker → Query → Evidence → List (List Value) → Reason → Type 0
MeetsAnswer policy asker q it rows By = IsRightlyBy policy asker q it
MeetsAnswer policy asker q it rows Rows = IsAnswer q asker.context asker.tables.rows rows
MeetsAnswer policy asker q it rows Proof = IsProved policy asker q it
MeetsAnswer policy asker q it rows reason = Unit {0}

-- what each test asks of a block
abbrev pub MeetsBlock : Policy → Asker → Query → PrintedBlock → Reason → Type 0
MeetsBlock policy asker q it CoveredReason = Covered policy asker.context q → ⊥
MeetsBlock policy asker q it Pair = IsRefuted policy asker q it
MeetsBlock policy asker q it reason = Unit {0}

-- what each test asks of what is printed of a request's query
unfoldable pub MeetsQuery : Policy → Asker → Query → PrintedLine → Reason → Type 0
MeetsQuery policy asker q (printed.Answer it line request rows version) reason = MeetsAnswer policy asker q it rows reason
MeetsQuery policy asker q (printed.Block it line request version) reason = MeetsBlock policy asker q it reason
MeetsQuery policy asker q line reason = Unit {0}

-- the same of a text, where it has a reading and its request is begun
abbrev pub MeetsText : Policy → Option Begun → Result Query ReadQueryFault → PrintedLine → Reason → Type 0
MeetsText policy (Some (Asking asker)) (Ok q) line reason = MeetsQuery policy asker q line reason
MeetsText policy held reading line reason = Unit {0}

abbrev pub fault_of : Result Query ReadQueryFault → Option ReadQueryFault
fault_of (Ok q) = None
fault_of (Err fault) = Some fault

-- It says that the text has no reading exactly where it has none, with its fault; or nothing, being a
-- memory line.
abbrev pub IsRightlyUnread : Result Query ReadQueryFault → PrintedLine → Type 0
IsRightlyUnread reading line = IsTrue (is_memory line) ⊎ (unread_in line ≡ fault_of reading)

-- what each test asks of what is printed of a question
abbrev pub MeetsAsked : Policy → Option Begun → Result Query ReadQueryFault → PrintedLine → Reason → Type 0
MeetsAsked policy held reading line Unread = IsRightlyUnread reading line
MeetsAsked policy held reading line By = MeetsText policy held reading line By
MeetsAsked policy held reading line CoveredReason = MeetsText policy held reading line CoveredReason
MeetsAsked policy held reading line Rows = MeetsText policy held reading line Rows
MeetsAsked policy held reading line Proof = MeetsText policy held reading line Proof
MeetsAsked policy held reading line Pair = MeetsText policy held reading line Pair
MeetsAsked policy held reading line reason = Unit {0}

-- ---- reads of cache keys

-- What each test asks of a read that is let through: of each of the key's queries what it asks of
-- an answer, but for the rows.
abbrev pub MeetsKeyRead : Policy → Asker → List Query → List Evidence → Reason → Type 0
MeetsKeyRead policy asker qs its By = AllZip (IsRightlyBy policy asker) qs its
MeetsKeyRead policy asker qs its Proof = AllZip (IsProved policy asker) qs its
MeetsKeyRead policy asker qs its reason = Unit {0}

-- and of one that is blocked: of the query that it names, if this is there, what it asks of a block
abbrev pub MeetsKeyBlock : Policy → Asker → Option Query → PrintedBlock → Reason → Type 0
MeetsKeyBlock policy asker None it reason = Unit {0}
MeetsKeyBlock policy asker (Some q) it reason = MeetsBlock policy asker q it reason

-- what each test asks of what is printed of a read, behind which are these queries
unfoldable pub MeetsQueries : Policy → Asker → List Query → PrintedLine → Reason → Type 0
MeetsQueries policy asker qs (printed.Read its key line read version) reason =
    MeetsKeyRead policy asker qs its reason
MeetsQueries policy asker qs (printed.ReadBlock it key line query read version) reason =
    MeetsKeyBlock policy asker (slice_get qs query) it reason
MeetsQueries policy asker qs line reason = Unit {0}

-- the same where its request is begun
abbrev pub MeetsReader : Policy → Option Begun → List Query → PrintedLine → Reason → Type 0
MeetsReader policy (Some (Asking asker)) qs line reason = MeetsQueries policy asker qs line reason
MeetsReader policy held qs line reason = Unit {0}

-- ---- all tests of a line

-- the number of the request that a line of the script is of, if it is begun
unfoldable pub request_in : ScriptEntry → Option ℕ
request_in (said.Begin request name context) = None
request_in (said.Ask request name text) = Some request
request_in (said.Read request name key arguments questions) = Some request
request_in (said.End request name) = Some request
request_in (said.Publish number set) = None

abbrev pub known_after : Basis → List Line → Option ℕ → Option Begun
known_after basis before None = None
known_after basis before (Some k) = request_after basis k before

-- what is known of the request of the entry
abbrev pub held_by : Basis → List Line → ScriptEntry → Option Begun
held_by basis before e = known_after basis before (request_in e)

-- kind and version
abbrev pub MeetsOpening : Basis → ℕ → List Numbered → Option Begun → ScriptEntry → PrintedLine → Reason → Type 0
MeetsOpening basis number used held e line Kind = IsTrue (is_kind basis.policy e number held line)
MeetsOpening basis number used held e line Version = IsTrue (is_version basis used held e line)
MeetsOpening basis number used held e line reason = Unit {0}

-- and what is behind them, of a question and of a read
unfoldable pub MeetsBehind : Policy → Option Begun → ScriptEntry → PrintedLine → Reason → Type 0
MeetsBehind policy held (said.Begin request name context) line reason = Unit {0}
MeetsBehind policy held (said.Ask request name text) line reason =
    MeetsAsked policy held (reading_of policy text) line reason
MeetsBehind policy held (said.Read request name key arguments questions) line reason =
    MeetsReader policy held (queries_read policy key arguments) line reason
MeetsBehind policy held (said.End request name) line reason = Unit {0}
MeetsBehind policy held (said.Publish number set) line reason = Unit {0}

-- What each test asks of the printed line of an entry, where the line has the number, these numbers
-- of sets are used before it, and so much is known of its request.
abbrev pub MeetsSaid : Basis → ℕ → List Numbered → Option Begun → ScriptEntry → PrintedLine → Reason → Type 0
MeetsSaid basis number used held e line reason =
    MeetsOpening basis number used held e line reason × MeetsBehind basis.policy held e line reason

-- what each asks of the last line, where so much is counted over the lines before it: it is a summary,
-- with these numbers
unfoldable pub MeetsTotal : Summary → PrintedLine → Reason → Type 0
MeetsTotal counted (printed.Summary summary) Kind = Unit {0}
MeetsTotal counted (printed.Summary summary) SummaryReason = summary ≡ counted
MeetsTotal counted line Kind = ⊥
MeetsTotal counted line reason = Unit {0}

-- what each asks of a line that is read, at its place
abbrev pub MeetsLine : Basis → List Line → Place → PrintedLine → Reason → Type 0
MeetsLine basis before (entry e) line reason =
    MeetsSaid basis (length before + 1) (used_in before) (held_by basis before e) e line reason
MeetsLine basis before total line reason = MeetsTotal (summary_of before) line reason

abbrev pub MeetsRead : Basis → List Line → Place → Reading → Reason → Type 0
MeetsRead basis before place (Ok line) reason = MeetsLine basis before place line reason
MeetsRead basis before place (Err why) reason = Unit {0}

-- it is JSON, ended by a line feed
abbrev pub IsJson : Bool → Reading → Type 0
IsJson ended (Ok line) = IsTrue ended
IsJson ended (Err unreadable.Json) = ⊥
IsJson ended (Err unreadable.Shape) = IsTrue ended

-- it has a form
abbrev pub HasForm : Reading → Type 0
HasForm (Ok line) = Unit {0}
HasForm (Err unreadable.Json) = Unit {0}
HasForm (Err unreadable.Shape) = ⊥

abbrev pub MeetsForm : Bool → Reading → Reason → Type 0
MeetsForm ended reading Json = IsJson ended reading
MeetsForm ended reading Shape = HasForm reading
MeetsForm ended reading reason = Unit {0}

-- what each test asks of the line behind the lines before, at its place
abbrev pub MeetsReading : Bool → Basis → List Line → Place → Reading → Reason → Type 0
MeetsReading ended basis before place reading reason =
    MeetsForm ended reading reason × MeetsRead basis before place reading reason

-- ---- the first test that fails

-- the place of a test in the order in which they are told
unfoldable pub rank : Reason → ℕ
rank Count = 0
rank Json = 1
rank Shape = 2
rank Kind = 3
rank Version = 4
rank Unread = 5
rank By = 6
rank CoveredReason = 7
rank Rows = 8
rank Proof = 9
rank Pair = 10
rank SummaryReason = 11

-- every test is met
pub record MeetsAll (Meets : Reason → Type 0) : Type 0 where
  pub meets : (reason : Reason) → Meets reason

-- this one isn't met, and each before it is
pub record IsFirstUnmet (Meets : Reason → Type 0) (reason : Reason) : Type 0 where
  pub unmet : Meets reason → ⊥
  pub before : (other : Reason) → rank other < rank reason → Meets other

-- the first that isn't met, or that all are
abbrev pub TellsFirst : (Reason → Type 0) → Option Reason → Type 0
TellsFirst Meets None = MeetsAll Meets
TellsFirst Meets (Some reason) = IsFirstUnmet Meets reason
