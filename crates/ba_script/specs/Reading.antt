-- What a script is, line by line, each after the entries of the lines before it.
use Rattle.std.specs.Prelude.{ℕ, ◌+◌, List, [], ◌∷◌, ◌++◌, length, nat_lt, Bool, true, false, count_by, Option, Some, None, option_map, Result, Ok, Err, if◌then◌else◌}
use Rattle.std.specs.Str.{bytes_eq}
use Rattle.ba_model.specs.Readings.{◌>>=◌, widened}
use Rattle.ba_model.specs.declared.policy.CacheKey.{CacheKey}
use Rattle.ba_model.specs.declared.policy.Context.{Context}
use Rattle.ba_model.specs.declared.policy.Parameter.{Parameter}
use Rattle.ba_model.specs.Limits.{most_asks, most_lines, most_requests}
use Rattle.ba_model.specs.declared.limits.Counted.TheVariants as what
use Rattle.ba_script.specs.Contexts.{context_of}
use Rattle.ba_script.specs.Lines.{script_lines}
use Rattle.ba_script.specs.Script.{script_line_of}
use Rattle.ba_script.specs.declared.entry.Script.{Script}
use Rattle.ba_script.specs.declared.entry.ScriptEntry.{ScriptEntry}
use Rattle.ba_script.specs.declared.entry.ScriptEntry.TheVariants as entry
use Rattle.ba_script.specs.declared.fault.ScriptFault.{ScriptFault}
use Rattle.ba_script.specs.declared.fault.ScriptFault.TheVariants.{BadLine, TooMany}
use Rattle.ba_script.specs.declared.fault.LineFault.TheVariants as why
use Rattle.ba_script.specs.declared.requests.Opened.{Opened}
use Rattle.ba_script.specs.declared.line.Member.{Member}
use Rattle.ba_script.specs.declared.line.ScriptLine.{ScriptLine}
use Rattle.ba_script.specs.declared.line.ScriptLine.TheVariants as line

-- ---- The requests that entries leave open

abbrev pub asked : Opened → Opened
asked held = record { request = held.request; asks = held.asks + 1 }

abbrev pub asked_more : ℕ → Opened → Opened
asked_more n held = record { request = held.request; asks = held.asks + n }

-- the request that is open under the name after one more entry, by the one before it
abbrev pub open_by : List ℕ → Option Opened → ScriptEntry → Option Opened
open_by name held (entry.Begin request it context) = if bytes_eq it name then Some (record { request = request; asks = 0 }) else held
open_by name held (entry.Ask request it query) = if bytes_eq it name then option_map asked held else held
open_by name held (entry.Read request it key arguments questions) = if bytes_eq it name then option_map (asked_more questions) held else held
open_by name held (entry.End request it) = if bytes_eq it name then None else held
open_by name held (entry.Publish number set) = held

abbrev pub open_from : List ℕ → Option Opened → List ScriptEntry → Option Opened
open_from name held [] = held
open_from name held (e ∷ es) = open_from name (open_by name held e) es

-- the request that is open under the name after these entries, if there is one, and how many questions it asked
abbrev pub open_after : List ScriptEntry → List ℕ → Option Opened
open_after before name = open_from name None before

unfoldable pub is_begin : ScriptEntry → Bool
is_begin (entry.Begin request name context) = true
is_begin (entry.Ask request name query) = false
is_begin (entry.Read request name key arguments questions) = false
is_begin (entry.End request name) = false
is_begin (entry.Publish number set) = false

abbrev pub begun_by : ℕ → ScriptEntry → ℕ
begun_by n (entry.Begin request name context) = n + 1
begun_by n (entry.Ask request name query) = n
begun_by n (entry.Read request name key arguments questions) = n
begun_by n (entry.End request name) = n
begun_by n (entry.Publish number set) = n

-- how many requests these entries begin
abbrev pub begun : List ScriptEntry → ℕ
begun before = count_by is_begin before

-- ---- The table sets that entries publish

unfoldable pub is_publish : ScriptEntry → Bool
is_publish (entry.Begin request name context) = false
is_publish (entry.Ask request name query) = false
is_publish (entry.Read request name key arguments questions) = false
is_publish (entry.End request name) = false
is_publish (entry.Publish number set) = true

abbrev pub published_by : ℕ → ScriptEntry → ℕ
published_by n (entry.Begin request name context) = n
published_by n (entry.Ask request name query) = n
published_by n (entry.Read request name key arguments questions) = n
published_by n (entry.End request name) = n
published_by n (entry.Publish number set) = n + 1

-- how many table sets these entries publish
abbrev pub published : List ScriptEntry → ℕ
published before = count_by is_publish before

-- ---- One line

abbrev pub context_at : ℕ → Option Context → Result Context ScriptFault
context_at n None = Err (BadLine n why.Context)
context_at n (Some context) = Ok context

-- a request begins if its number is below the limit
abbrev pub numbered : List ℕ → ℕ → Context → Result ScriptEntry ScriptFault
numbered name number context = if nat_lt number most_requests then Ok (entry.Begin number name context) else Err (TooMany what.Requests most_requests)

unfoldable pub begin_of : List Parameter → ℕ → List ℕ → List Member → Option Opened → ℕ → Result ScriptEntry ScriptFault
begin_of params n name members (Some held) number = Err (BadLine n why.Begun)
begin_of params n name members None number = context_at n (context_of params members) >>= numbered name number

unfoldable pub ask_of : ℕ → List ℕ → List ℕ → Option Opened → Result ScriptEntry ScriptFault
ask_of n name query None = Err (BadLine n why.Unbegun)
ask_of n name query (Some held) = if nat_lt held.asks most_asks then Ok (entry.Ask held.request name query) else Err (TooMany what.Asks most_asks)

-- the first key of the name, and its number, where these are numbered from n
abbrev pub key_from : ℕ → List ℕ → List CacheKey → Option (ℕ × CacheKey)
key_from n name [] = None
key_from n name (key ∷ keys) = if bytes_eq key.name name then Some (n, key) else key_from (n + 1) name keys

abbrev pub arguments_at : ℕ → Option Context → Result Context ScriptFault
arguments_at n None = Err (BadLine n why.Args)
arguments_at n (Some arguments) = Ok arguments

-- a read counts the queries of its key as questions
abbrev pub counted : List ℕ → Opened → ℕ → ℕ → Context → Result ScriptEntry ScriptFault
counted name held number questions arguments =
    if nat_lt most_asks (held.asks + questions) then Err (TooMany what.Asks most_asks) else Ok (entry.Read held.request name number arguments questions)

unfoldable pub key_read : ℕ → List ℕ → List Member → Opened → Option (ℕ × CacheKey) → Result ScriptEntry ScriptFault
key_read n name members held None = Err (BadLine n why.Key)
key_read n name members held (Some found) = arguments_at n (context_of found.1.arguments members) >>= counted name held found.0 (length found.1.queries)

unfoldable pub read_of : List CacheKey → ℕ → List ℕ → List ℕ → List Member → Option Opened → Result ScriptEntry ScriptFault
read_of keys n name key members None = Err (BadLine n why.Unbegun)
read_of keys n name key members (Some held) = key_read n name members held (key_from 0 key keys)

unfoldable pub end_of : ℕ → List ℕ → Option Opened → Result ScriptEntry ScriptFault
end_of n name None = Err (BadLine n why.Unbegun)
end_of n name (Some held) = Ok (entry.End held.request name)

-- the entry of line n, after these entries
abbrev pub entry_of : List Parameter → List CacheKey → List ScriptEntry → ℕ → ScriptLine → Result ScriptEntry ScriptFault
entry_of params keys before n (line.Begin name members) = begin_of params n name members (open_after before name) (begun before)
entry_of params keys before n (line.Ask name query) = ask_of n name query (open_after before name)
entry_of params keys before n (line.Read name key members) = read_of keys n name key members (open_after before name)
entry_of params keys before n (line.End name) = end_of n name (open_after before name)
entry_of params keys before n (line.Publish set) = Ok (entry.Publish (published before) set)

-- the entry that the bytes of the next line are, after these entries; lines are numbered from 1
unfoldable pub entry_at : List Parameter → List CacheKey → List ScriptEntry → List ℕ → Result ScriptEntry ScriptFault
entry_at params keys before bytes = widened (BadLine (length before + 1)) (script_line_of bytes) >>= entry_of params keys before (length before + 1)

-- ---- All lines

-- these entries, and behind them those of the lines
abbrev pub entries_from : List Parameter → List CacheKey → List ScriptEntry → List (List ℕ) → Result (List ScriptEntry) ScriptFault
entries_from params keys before [] = Ok before
entries_from params keys before (bytes ∷ lines) = entry_at params keys before bytes >>= λ it. entries_from params keys (before ++ it ∷ []) lines

abbrev pub script_with : List ScriptEntry → Script
script_with entries = record { entries = entries }

abbrev pub script_from : List Parameter → List CacheKey → List (List ℕ) → Result Script ScriptFault
script_from params keys lines = entries_from params keys [] lines >>= λ entries. Ok (script_with entries)

-- the script that the bytes are, for a policy with these parameters and cache keys
unfoldable pub script_of : List Parameter → List CacheKey → List ℕ → Result Script ScriptFault
script_of params keys bytes = if nat_lt most_lines (length (script_lines bytes)) then Err (TooMany what.Lines most_lines) else script_from params keys (script_lines bytes)
