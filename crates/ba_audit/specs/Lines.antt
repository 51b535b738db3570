-- The lines of a script with what the lines of an output at their places read as, and what these
-- tell of versions and of requests.
use Rattle.std.specs.Prelude.{ℕ, ◌+◌, ◌==◌, List, [], ◌∷◌, ◌++◌, Bool, true, false, Option, Some, None, option_map, Result, Ok, Err, if◌then◌else◌, is_some, length, slice_get, count_by, sum_by}
use Rattle.std.specs.List.{flat_map}
use Rattle.ba_comply.specs.declared.trace.TraceEntry.{TraceEntry}
use Rattle.ba_keys.specs.Literals.{key_queries}
use Rattle.ba_model.specs.declared.policy.CacheKey.{CacheKey}
use Rattle.ba_model.specs.declared.policy.Context.{Context}
use Rattle.ba_model.specs.declared.policy.Policy.{Policy}
use Rattle.ba_model.specs.declared.query.Query.{Query}
use Rattle.ba_model.specs.declared.value.Value.{Value}
use Rattle.ba_script.specs.declared.entry.ScriptEntry.{ScriptEntry}
use Rattle.ba_script.specs.declared.entry.ScriptEntry.TheVariants as said
use Rattle.ba_sql_query.specs.Texts.{query_of}
use Rattle.ba_sql_query.specs.declared.fault.ReadQueryFault.{ReadQueryFault}
use Rattle.ba_printed.specs.declared.line.LineReason.{LineReason}
use Rattle.ba_printed.specs.declared.line.PrintedBlock.{PrintedBlock}
use Rattle.ba_printed.specs.declared.line.PrintedBlock.TheVariants as blocked
use Rattle.ba_printed.specs.declared.line.PrintedLine.{PrintedLine}
use Rattle.ba_printed.specs.declared.line.PrintedLine.TheVariants as printed
use Rattle.ba_tables.specs.TableSet.{TableSet}
use Rattle.ba_wire.specs.declared.summary.Summary.{Summary}
use Rattle.ba_audit.specs.declared.request.Asker.{Asker}
use Rattle.ba_audit.specs.declared.request.Begun.{Begun}
use Rattle.ba_audit.specs.declared.request.Begun.TheVariants.{Silent, Asking}
use Rattle.ba_audit.specs.declared.numbered.Numbered.{Numbered}

-- ---- lines

-- what a line of an output reads as
abbrev pub Reading : Type 0
Reading = Result PrintedLine LineReason

-- what stands at a place of an output: a line of the script, or the summary behind them all
pub data Place : Type 0 where
  entry : ScriptEntry → Place
  total : Place

-- a place, and what the output's line there reads as
pub record Line : Type 0 where
  pub place : Place
  pub reading : Reading

abbrev pub line_at : Place → Reading → Line
line_at place reading = record { place = place; reading = reading }

-- ---- what a printed line has

-- the name of the request that it begins
unfoldable pub begin_in : PrintedLine → Option (List ℕ)
begin_in (printed.Begin begin line version) = Some begin
begin_in line = None

-- the name of the request that asked
unfoldable pub asker_in : PrintedLine → Option (List ℕ)
asker_in (printed.Answer evidence line request rows version) = Some request
asker_in (printed.Block why line request version) = Some request
asker_in (printed.Unread line request unread version) = Some request
asker_in line = None

-- the name of the request that read a cache key
unfoldable pub reader_in : PrintedLine → Option (List ℕ)
reader_in (printed.Read it key line read version) = Some read
reader_in (printed.ReadBlock why key line query read version) = Some read
reader_in line = None

-- the name of the key that it read
unfoldable pub key_in : PrintedLine → Option (List ℕ)
key_in (printed.Read it key line read version) = Some key
key_in (printed.ReadBlock why key line query read version) = Some key
key_in line = None

-- the name of the request that it ends
unfoldable pub end_in : PrintedLine → Option (List ℕ)
end_in (printed.End end line) = Some end
end_in line = None

-- the name of the table set that it publishes
unfoldable pub set_in : PrintedLine → Option (List ℕ)
set_in (printed.Publish line publish version) = Some publish
set_in line = None

-- the version that a request begins over
unfoldable pub begun_over : PrintedLine → Option ℕ
begun_over (printed.Begin begin line version) = Some version
begun_over line = None

-- the version that a table set is published as
unfoldable pub published_as : PrintedLine → Option ℕ
published_as (printed.Publish line publish version) = Some version
published_as line = None

-- the version that a question was asked over, or a key read
unfoldable pub asked_over : PrintedLine → Option ℕ
asked_over (printed.Answer evidence line request rows version) = Some version
asked_over (printed.Block why line request version) = Some version
asked_over (printed.Unread line request unread version) = Some version
asked_over (printed.Read it key line read version) = Some version
asked_over (printed.ReadBlock why key line query read version) = Some version
asked_over line = None

-- the fault that a question's text is said to have
unfoldable pub unread_in : PrintedLine → Option ReadQueryFault
unread_in (printed.Unread line request unread version) = Some unread
unread_in line = None

-- the rows of an answer
unfoldable pub rows_in : PrintedLine → Option (List (List Value))
rows_in (printed.Answer evidence line request rows version) = Some rows
rows_in line = None

-- the number of the script's line, which all but an uneven read and the summary have
unfoldable pub number_in : PrintedLine → Option ℕ
number_in (printed.Begin begin line version) = Some line
number_in (printed.End end line) = Some line
number_in (printed.Publish line publish version) = Some line
number_in (printed.Answer evidence line request rows version) = Some line
number_in (printed.Block why line request version) = Some line
number_in (printed.Unread line request unread version) = Some line
number_in (printed.Read it key line read version) = Some line
number_in (printed.ReadBlock why key line query read version) = Some line
number_in printed.UnevenRead = None
number_in (printed.Memory line) = Some line
number_in (printed.Summary summary) = None

-- it says that there was no memory
unfoldable pub is_memory : PrintedLine → Bool
is_memory (printed.Memory line) = true
is_memory line = false

-- it answers a question, or lets a read through
unfoldable pub is_answer : PrintedLine → Bool
is_answer (printed.Answer evidence line request rows version) = true
is_answer (printed.Read it key line read version) = true
is_answer line = false

-- it blocks a question, or a read
unfoldable pub is_block : PrintedLine → Bool
is_block (printed.Block why line request version) = true
is_block (printed.ReadBlock why key line query read version) = true
is_block line = false

-- the evidence of a block can't be tested: it is a number of steps, or a clause
unfoldable pub is_untested : PrintedBlock → Bool
is_untested (blocked.Refuted pair) = false
is_untested (blocked.Spent steps) = true
is_untested (blocked.Stuck clause) = true

-- Nothing of it is tested but its number and version: a memory line, and a block as spent or stuck,
-- whose query isn't covered.
unfoldable pub is_unaudited : PrintedLine → Bool
is_unaudited (printed.Block why line request version) = is_untested why
is_unaudited (printed.ReadBlock why key line query read version) = is_untested why
is_unaudited (printed.Memory line) = true
is_unaudited line = false

-- ---- versions

-- the number under which the set of a publish line of the script is printed, with its place among
-- the sets; the set that the words name has the place 0
abbrev pub numbered_as : ℕ → Option ℕ → List Numbered
numbered_as number None = []
numbered_as number (Some version) = record { version = version; place = number + 1 } ∷ []

abbrev pub numbered_by : ℕ → Reading → List Numbered
numbered_by number (Ok line) = numbered_as number (published_as line)
numbered_by number (Err reason) = []

unfoldable pub numbered_at : ScriptEntry → Reading → List Numbered
numbered_at (said.Begin request name context) reading = []
numbered_at (said.Ask request name text) reading = []
numbered_at (said.Read request name key arguments questions) reading = []
numbered_at (said.End request name) reading = []
numbered_at (said.Publish number set) reading = numbered_by number reading

-- those of the publish lines of a script that are printed as such, in order
abbrev pub publications : List ScriptEntry → List Reading → List Numbered
publications [] readings = []
publications (e ∷ es) [] = []
publications (e ∷ es) (r ∷ rs) = numbered_at e r ++ publications es rs

-- the words' set is version 0
abbrev pub versions : List ScriptEntry → List Reading → List Numbered
versions es rs = record { version = 0; place = 0 } ∷ publications es rs

-- What an output is tested against: the policy, the words' set and behind it those of the publish
-- lines, and the numbers under which sets are printed, that of the words' first.
pub record Basis : Type 0 where
  pub policy : Policy
  pub sets : List TableSet
  pub numbered : List Numbered

-- the place of the first set of the number
abbrev pub place_of : ℕ → List Numbered → Option ℕ
place_of version [] = None
place_of version (it ∷ more) = if it.version == version then Some it.place else place_of version more

abbrev pub set_at : List TableSet → Option ℕ → Option TableSet
set_at sets None = None
set_at sets (Some place) = slice_get sets place

-- the tables of a version
abbrev pub tables_of : Basis → ℕ → Option TableSet
tables_of basis version = set_at basis.sets (place_of version basis.numbered)

-- ---- requests

abbrev pub asking : Context → ℕ → TableSet → Begun
asking context version tables =
    Asking (record { context = context; version = version; tables = tables; trace = [] })

-- what begins with a printed line: a request over the tables of the version, or one that found no
-- memory
abbrev pub begun_with : Basis → Context → Bool → Option ℕ → Option Begun
begun_with basis context true version = Some Silent
begun_with basis context false None = None
begun_with basis context false (Some version) = option_map (asking context version) (tables_of basis version)

abbrev pub begun_by : Basis → Context → Reading → Option Begun
begun_by basis context (Ok line) = begun_with basis context (is_memory line) (begun_over line)
begun_by basis context (Err reason) = None

-- what the text of a question reads as
abbrev pub reading_of : Policy → List ℕ → Result Query ReadQueryFault
reading_of policy text = query_of policy.schema policy.params text

abbrev pub recorded : Result Query ReadQueryFault → Option (List (List Value)) → List TraceEntry
recorded (Ok q) (Some rows) = record { query = q; rows = rows } ∷ []
recorded (Ok q) None = []
recorded (Err fault) rows = []

-- what a printed line adds to the trace of the request that asked: the text's query with the rows of
-- its answer
abbrev pub told_by : Policy → List ℕ → Reading → List TraceEntry
told_by policy text (Ok line) = recorded (reading_of policy text) (rows_in line)
told_by policy text (Err reason) = []

-- the cache key of the number, from 0
abbrev pub key_at : Policy → ℕ → Option CacheKey
key_at policy number = slice_get policy.keys number

abbrev pub queries_behind : Policy → Context → Option CacheKey → List Query
queries_behind policy arguments None = []
queries_behind policy arguments (Some key) = key_queries policy key arguments

-- the queries behind the key of the number, with these values of its arguments in them
abbrev pub queries_read : Policy → ℕ → Context → List Query
queries_read policy number arguments = queries_behind policy arguments (key_at policy number)

abbrev pub with_told : List TraceEntry → Begun → Begun
with_told more Silent = Silent
with_told more (Asking asker) = Asking (record asker { trace = asker.trace ++ more })

-- what is known of the request of the number after one more line
unfoldable pub request_by : Basis → ℕ → Option Begun → ScriptEntry → Reading → Option Begun
request_by basis k held (said.Begin request name context) reading =
    if request == k then begun_by basis context reading else held
request_by basis k held (said.Ask request name text) reading =
    if request == k then option_map (with_told (told_by basis.policy text reading)) held else held
request_by basis k held (said.Read request name key arguments questions) reading = held
request_by basis k held (said.End request name) reading = held
request_by basis k held (said.Publish number set) reading = held

abbrev pub request_at : Basis → ℕ → Option Begun → Place → Reading → Option Begun
request_at basis k held total reading = held
request_at basis k held (entry e) reading = request_by basis k held e reading

abbrev pub request_from : Basis → ℕ → Option Begun → List Line → Option Begun
request_from basis k held [] = held
request_from basis k held (line ∷ lines) = request_from basis k (request_at basis k held line.place line.reading) lines

-- What is known of the request of the number after these lines: who asks, over which version of the
-- tables, and what was answered so far, as its begin line and its answers are printed.
abbrev pub request_after : Basis → ℕ → List Line → Option Begun
request_after basis k lines = request_from basis k None lines

-- ---- what is counted

abbrev pub said_by : Reading → List PrintedLine
said_by (Ok line) = line ∷ []
said_by (Err reason) = []

-- what these lines say
abbrev pub said_in : List Line → List PrintedLine
said_in lines = flat_map (λ line. said_by line.reading) lines

unfoldable pub is_begin : ScriptEntry → Bool
is_begin (said.Begin request name context) = true
is_begin (said.Ask request name text) = false
is_begin (said.Read request name key arguments questions) = false
is_begin (said.End request name) = false
is_begin (said.Publish number set) = false

abbrev pub begins : Place → Bool
begins total = false
begins (entry e) = is_begin e

abbrev pub count_rows : Option (List (List Value)) → ℕ
count_rows None = 0
count_rows (Some rows) = length rows

abbrev pub row_count : PrintedLine → ℕ
row_count line = count_rows (rows_in line)

abbrev pub is_unread : PrintedLine → Bool
is_unread line = is_some (unread_in line)

-- what is counted over lines
abbrev pub summary_of : List Line → Summary
summary_of lines = record {
  answered = count_by is_answer (said_in lines);
  blocked = count_by is_block (said_in lines);
  lines = length lines;
  memory = count_by is_memory (said_in lines);
  requests = count_by (λ line. begins line.place) lines;
  rows = sum_by row_count (said_in lines);
  unread = count_by is_unread (said_in lines);
}

abbrev pub unaudited_in : List Line → ℕ
unaudited_in lines = count_by is_unaudited (said_in lines)

-- the numbers under which these lines publish sets, in order
abbrev pub used_at : Place → Reading → List Numbered
used_at total reading = []
used_at (entry e) reading = numbered_at e reading

abbrev pub used_in : List Line → List Numbered
used_in lines = flat_map (λ line. used_at line.place line.reading) lines
