-- Which scripts have a text that reads back.
use Rattle.std.specs.Prelude.{◌≡◌, ℕ, ◌<◌, ◌≤◌, IsTrue, List, [], ◌∷◌, ◌++◌, All, length, Ok, slice_get}
use Rattle.std.specs.List.{zip}
use Rattle.std.specs.Str.{IsUtf8}
use Rattle.ba_lex.specs.Spelling.{fits}
use Rattle.ba_model.specs.Limits.{most_lines}
use Rattle.ba_model.specs.declared.policy.CacheKey.{CacheKey}
use Rattle.ba_model.specs.declared.policy.Context.{Context}
use Rattle.ba_model.specs.declared.policy.Parameter.{Parameter}
use Rattle.ba_model.specs.declared.value.Value.{Value}
use Rattle.ba_model.specs.declared.value.Value.TheVariants.{Null, Int, Text}
use Rattle.ba_script.specs.Reading.{script_of}
use Rattle.ba_script.specs.Script.{IsJson, IsName}
use Rattle.ba_script.specs.Scripts.{Says}
use Rattle.ba_script.specs.declared.entry.Script.{Script}
use Rattle.ba_script.specs.declared.entry.ScriptEntry.{ScriptEntry}
use Rattle.ba_script.specs.declared.entry.ScriptEntry.TheVariants as entry
use Rattle.ba_script.specs.declared.line.ScriptLine.{ScriptLine}
use Rattle.ba_script.specs.declared.line.ScriptLine.TheVariants.{Begin, Ask, Read, End, Publish}
use Rattle.ba_script_print.specs.Texts.{arguments_of, entry_json, entry_text, script_text}

-- ---- scripts that can be spelled

-- a request's name has 1 to 64 bytes, and a table set's isn't empty
abbrev pub HasNames : ScriptLine → Type 0
HasNames (Begin name context) = IsName name
HasNames (Ask name query) = IsName name
HasNames (Read name key args) = IsName name
HasNames (End name) = IsName name
HasNames (Publish set) = 0 < length set

-- some line says the entry, after the entries before it
pub record IsSaid (params : List Parameter) (keys : List CacheKey) (before : List ScriptEntry) (e : ScriptEntry) : Type 0 where
  pub line : ScriptLine
  pub names : HasNames line
  pub says : Says params keys before line e

-- each of these entries, after those before it
abbrev pub AreSaid : List Parameter → List CacheKey → List ScriptEntry → List ScriptEntry → Type 0
AreSaid params keys before [] = Unit {0}
AreSaid params keys before (e ∷ es) = IsSaid params keys before e × AreSaid params keys (before ++ e ∷ []) es

-- for a policy with these parameters and cache keys
pub record CanBeSpelled (params : List Parameter) (keys : List CacheKey) (script : Script) : Type 0 where
  pub few_entries : length script.entries ≤ most_lines
  pub said : AreSaid params keys [] script.entries

-- ---- what a script in memory is

-- a text is UTF-8, and a whole number has 64 bits
abbrev pub ValueIsHeld : Value → Type 0
ValueIsHeld Null = Unit {0}
ValueIsHeld (Int n) = IsTrue (fits n)
ValueIsHeld (Text s) = IsUtf8 s

abbrev pub EntryIsHeld : ScriptEntry → Type 0
EntryIsHeld (entry.Begin request name context) = IsUtf8 name × All ValueIsHeld context.values
EntryIsHeld (entry.Ask request name query) = IsUtf8 name × IsUtf8 query
EntryIsHeld (entry.Read request name key arguments questions) = IsUtf8 name × All ValueIsHeld arguments.values
EntryIsHeld (entry.End request name) = IsUtf8 name
EntryIsHeld (entry.Publish number set) = IsUtf8 set

abbrev pub ParameterIsHeld : Parameter → Type 0
ParameterIsHeld param = IsUtf8 param.name

abbrev pub KeyIsHeld : CacheKey → Type 0
KeyIsHeld key = IsUtf8 key.name × All ParameterIsHeld key.arguments

-- as all texts and numbers that a program has
pub record IsHeld (params : List Parameter) (keys : List CacheKey) (script : Script) : Type 0 where
  pub each_parameter : All ParameterIsHeld params
  pub each_key : All KeyIsHeld keys
  pub each_entry : All EntryIsHeld script.entries

-- ---- what is known of an entry once it was written

abbrev pub ValueHasBits : Value → Type 0
ValueHasBits Null = Unit {0}
ValueHasBits (Int n) = IsTrue (fits n)
ValueHasBits (Text s) = Unit {0}

-- the values that are written
abbrev pub ContextHasBits : List Parameter → Context → Type 0
ContextHasBits params context = All (λ given. ValueHasBits given.1) (zip params context.values)

abbrev pub EntryHasBits : List Parameter → List CacheKey → ScriptEntry → Type 0
EntryHasBits params keys (entry.Begin request name context) = ContextHasBits params context
EntryHasBits params keys (entry.Ask request name query) = Unit {0}
EntryHasBits params keys (entry.Read request name key arguments questions) = ContextHasBits (arguments_of (slice_get keys key)) arguments
EntryHasBits params keys (entry.End request name) = Unit {0}
EntryHasBits params keys (entry.Publish number set) = Unit {0}

-- its text is UTF-8 and reads as its JSON, whose numbers have 64 bits
pub record HasText (params : List Parameter) (keys : List CacheKey) (e : ScriptEntry) : Type 0 where
  pub json : IsJson (entry_text params keys e) (entry_json params keys e)
  pub bits : EntryHasBits params keys e

-- ---- the laws

-- the text of each script that can be spelled is read as that script
abbrev pub TextReadsBack : Type 0
TextReadsBack =
    (params : List Parameter) (keys : List CacheKey) (script : Script) → IsHeld params keys script → CanBeSpelled params keys script
    → script_of params keys (script_text params keys script) ≡ Ok script

-- and no other script is read, whatever the bytes
abbrev pub OnlySpelledAreRead : Type 0
OnlySpelledAreRead =
    (params : List Parameter) (keys : List CacheKey) (bytes : List ℕ) (script : Script) → script_of params keys bytes ≡ Ok script → CanBeSpelled params keys script
