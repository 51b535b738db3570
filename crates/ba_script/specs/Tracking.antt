-- What the open requests that are kept say of the entries before.
use Rattle.std.specs.Prelude.{◌≡◌, ℕ, List, Option, Result, Ok}
use Rattle.std.specs.BTreeMap.{get}
use Rattle.std.specs.Cmp.Lexicographic.{slice_cmp}
use Rattle.std.specs.Ordering.{nat_cmp}
use Rattle.ba_model.specs.Readings.{◌>>=◌, widened}
use Rattle.ba_model.specs.declared.policy.CacheKey.{CacheKey}
use Rattle.ba_model.specs.declared.policy.Parameter.{Parameter}
use Rattle.ba_script.specs.Script.{script_line_of}
use Rattle.ba_script.specs.Reading.{ask_of, begin_of, begun, begun_by, end_of, open_after, open_by, published, published_by, read_of}
use Rattle.ba_script.specs.declared.entry.ScriptEntry.{ScriptEntry}
use Rattle.ba_script.specs.declared.entry.ScriptEntry.TheVariants as entry
use Rattle.ba_script.specs.declared.fault.ScriptFault.{ScriptFault}
use Rattle.ba_script.specs.declared.fault.ScriptFault.TheVariants.{BadLine}
use Rattle.ba_script.specs.declared.requests.Opened.{Opened}
use Rattle.ba_script.specs.declared.requests.Requests.{Requests}
use Rattle.ba_script.specs.declared.line.ScriptLine.{ScriptLine}
use Rattle.ba_script.specs.declared.line.ScriptLine.TheVariants as line

-- what is kept of a name
abbrev pub opened : Requests → List ℕ → Option Opened
opened it name = get (slice_cmp nat_cmp) it.names name

-- what is kept is what the entries leave open, and how many requests and table sets they number
pub record Tracks (before : List ScriptEntry) (it : Requests) : Type 0 where
  pub names : (name : List ℕ) → opened it name ≡ open_after before name
  pub count : it.begun ≡ begun before
  pub sets : it.published ≡ published before

-- what is kept follows one more entry
pub record Moves (e : ScriptEntry) (old new : Requests) : Type 0 where
  pub names : (name : List ℕ) → opened new name ≡ open_by name (opened old name) e
  pub count : new.begun ≡ begun_by old.begun e
  pub sets : new.published ≡ published_by old.published e

-- the entry of line n, by what is kept
abbrev pub kept_entry_of : List Parameter → List CacheKey → Requests → ℕ → ScriptLine → Result ScriptEntry ScriptFault
kept_entry_of params keys it n (line.Begin name members) = begin_of params n name members (opened it name) it.begun
kept_entry_of params keys it n (line.Ask name query) = ask_of n name query (opened it name)
kept_entry_of params keys it n (line.Read name key members) = read_of keys n name key members (opened it name)
kept_entry_of params keys it n (line.End name) = end_of n name (opened it name)
kept_entry_of params keys it n (line.Publish set) = Ok (entry.Publish it.published set)

abbrev pub kept_entry_at : List Parameter → List CacheKey → Requests → ℕ → List ℕ → Result ScriptEntry ScriptFault
kept_entry_at params keys it n bytes = widened (BadLine n) (script_line_of bytes) >>= kept_entry_of params keys it n
