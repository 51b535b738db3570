-- The text of a script: for each entry a line, which is compact JSON with its keys in byte order.
use Rattle.std.specs.Prelude.{ℕ, List, [], ◌∷◌, ◌++◌, codes, fold, Option, Some, None, slice_get}
use Rattle.std.specs.List.{flat_map, zip}
use Rattle.serde_json.specs.Data.{Data, Members, null, number, string, object, no_members, member, put}
use Rattle.serde_json.specs.Find.{of_integer}
use Rattle.serde_json.specs.Written.{compact_text}
use Rattle.ba_model.specs.declared.policy.CacheKey.{CacheKey}
use Rattle.ba_model.specs.declared.policy.Context.{Context}
use Rattle.ba_model.specs.declared.policy.Parameter.{Parameter}
use Rattle.ba_model.specs.declared.value.Value.{Value}
use Rattle.ba_model.specs.declared.value.Value.TheVariants.{Null, Int, Text}
use Rattle.ba_script.specs.declared.entry.Script.{Script}
use Rattle.ba_script.specs.declared.entry.ScriptEntry.{ScriptEntry}
use Rattle.ba_script.specs.declared.entry.ScriptEntry.TheVariants as entry

-- a whole number is that number, a text that string; NULL, which no parameter is, is null
abbrev pub value_json : Value → Data
value_json Null = null
value_json (Int n) = number (of_integer n)
value_json (Text s) = string s

-- the members with the value of one parameter more
abbrev pub with_value : Members → Parameter × Value → Members
with_value members given = put given.0.name (value_json given.1) members

abbrev pub context_members : List Parameter → Context → Members
context_members params context = fold with_value no_members (zip params context.values)

-- each parameter with its value
abbrev pub context_json : List Parameter → Context → Data
context_json params context = object (context_members params context)

-- a key that isn't there has no name and no arguments
abbrev pub name_of : Option CacheKey → List ℕ
name_of None = []
name_of (Some key) = key.name

abbrev pub arguments_of : Option CacheKey → List Parameter
arguments_of None = []
arguments_of (Some key) = key.arguments

-- ---- an entry, under a policy's parameters and cache keys

unfoldable pub begin_json : List Parameter → List ℕ → Context → Data
begin_json params name context =
    object (member (codes "begin") (string name)
    (member (codes "context") (context_json params context) no_members))

unfoldable pub ask_json : List ℕ → List ℕ → Data
ask_json name query =
    object (member (codes "ask") (string name)
    (member (codes "query") (string query) no_members))

unfoldable pub read_json : List ℕ → Option CacheKey → Context → Data
read_json name key arguments =
    object (member (codes "args") (context_json (arguments_of key) arguments)
    (member (codes "key") (string (name_of key))
    (member (codes "read") (string name) no_members)))

abbrev pub entry_json : List Parameter → List CacheKey → ScriptEntry → Data
entry_json params keys (entry.Begin request name context) = begin_json params name context
entry_json params keys (entry.Ask request name query) = ask_json name query
entry_json params keys (entry.Read request name key arguments questions) = read_json name (slice_get keys key) arguments
entry_json params keys (entry.End request name) = object (member (codes "end") (string name) no_members)
entry_json params keys (entry.Publish count set) = object (member (codes "publish") (string set) no_members)

abbrev pub entry_text : List Parameter → List CacheKey → ScriptEntry → List ℕ
entry_text params keys e = compact_text (entry_json params keys e)

-- an entry's line, with its line feed
abbrev pub entry_line : List Parameter → List CacheKey → ScriptEntry → List ℕ
entry_line params keys e = entry_text params keys e ++ 10 ∷ []

abbrev pub entries_text : List Parameter → List CacheKey → List ScriptEntry → List ℕ
entries_text params keys entries = flat_map (entry_line params keys) entries

abbrev pub script_text : List Parameter → List CacheKey → Script → List ℕ
script_text params keys script = entries_text params keys script.entries
