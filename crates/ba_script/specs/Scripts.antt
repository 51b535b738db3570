-- What a script means, apart from how it is read.
use Rattle.std.specs.Prelude.{◌≡◌, ◌≢◌, ℕ, ◌+◌, ◌<◌, ◌≤◌, ◌↔◌, List, [], ◌∷◌, ◌++◌, length, All, false, sum_by, Some, slice_get, Ok, Err, if◌then◌else◌}
use Rattle.std.specs.Str.{bytes_eq}
use Rattle.ba_model.specs.Fit.{ContextFits, kinds_of}
use Rattle.ba_model.specs.declared.policy.CacheKey.{CacheKey}
use Rattle.ba_model.specs.declared.policy.Context.{Context}
use Rattle.ba_model.specs.declared.policy.Parameter.{Parameter}
use Rattle.ba_model.specs.Limits.{most_asks, most_lines, most_requests}
use Rattle.ba_model.specs.declared.limits.Counted.TheVariants as what
use Rattle.ba_script.specs.Contexts.{IsContext}
use Rattle.ba_script.specs.Lines.{script_lines}
use Rattle.ba_script.specs.Reading.{begun, published, script_of}
use Rattle.ba_script.specs.Script.{IsJson, Spells, given_members}
use Rattle.ba_script.specs.declared.entry.Script.{Script}
use Rattle.ba_script.specs.declared.entry.ScriptEntry.{ScriptEntry}
use Rattle.ba_script.specs.declared.entry.ScriptEntry.TheVariants as entry
use Rattle.ba_script.specs.declared.fault.ScriptFault.{ScriptFault}
use Rattle.ba_script.specs.declared.fault.ScriptFault.TheVariants.{BadLine, TooMany}
use Rattle.ba_script.specs.declared.fault.LineFault.TheVariants as why
use Rattle.ba_script.specs.declared.line.Member.{Member}
use Rattle.ba_script.specs.declared.line.ScriptLine.{ScriptLine}
use Rattle.ba_script.specs.declared.line.ScriptLine.TheVariants as line
use Rattle.serde_json.specs.Data.{Data, Members, null}
use Rattle.serde_json.specs.Find.{get_member}

-- the entry is a question or a read under the name, or of another name, or of none
abbrev pub Leaves : List ℕ → ScriptEntry → Type 0
Leaves name (entry.Begin request it context) = bytes_eq it name ≡ false
Leaves name (entry.Ask request it query) = Unit {0}
Leaves name (entry.Read request it key arguments questions) = Unit {0}
Leaves name (entry.End request it) = bytes_eq it name ≡ false
Leaves name (entry.Publish number set) = Unit {0}

-- how many questions the entry asks under the name: an ask one, and a read the queries of its key
unfoldable pub questions_under : List ℕ → ScriptEntry → ℕ
questions_under name (entry.Begin request it context) = 0
questions_under name (entry.Ask request it query) = if bytes_eq it name then 1 else 0
questions_under name (entry.Read request it key arguments questions) = if bytes_eq it name then questions else 0
questions_under name (entry.End request it) = 0
questions_under name (entry.Publish number set) = 0

-- the request is open under the name after these entries: it began there, the name wasn't ended or begun again, and it asked so many questions
pub record IsOpen (before : List ScriptEntry) (name : List ℕ) (request asks : ℕ) : Type 0 where
  pub front : List ScriptEntry
  pub context : Context
  pub since : List ScriptEntry
  pub begins : before ≡ front ++ entry.Begin request name context ∷ since
  pub stays : All (Leaves name) since
  pub count : asks ≡ sum_by (questions_under name) since

-- no request is open under the name
abbrev pub IsFree : List ScriptEntry → List ℕ → Type 0
IsFree before name = (request asks : ℕ) → ¬ (IsOpen before name request asks)

-- the key is the first of its name, and has this number
pub record HasKey (keys : List CacheKey) (name : List ℕ) (number : ℕ) (key : CacheKey) : Type 0 where
  pub front : List CacheKey
  pub back : List CacheKey
  pub are : keys ≡ front ++ key ∷ back
  pub number_is : number ≡ length front
  pub named : key.name ≡ name
  pub first : All (λ other. other.name ≢ name) front

-- What a line says after these entries. A new request has as its number how many were begun before, and a table set that is published
-- how many were published before.
pub data Says (params : List Parameter) (keys : List CacheKey) (before : List ScriptEntry) : ScriptLine → ScriptEntry → Type 0 where
  begins : {name : List ℕ} {members : List Member} {context : Context} → IsFree before name → IsContext params members context → begun before < most_requests
      → Says params keys before (line.Begin name members) (entry.Begin (begun before) name context)
  asks : {name query : List ℕ} {request asked : ℕ} → IsOpen before name request asked → asked < most_asks → Says params keys before (line.Ask name query) (entry.Ask request name query)
  reads : {name key_name : List ℕ} {members : List Member} {request asked number : ℕ} {key : CacheKey} {arguments : Context} → IsOpen before name request asked → HasKey keys key_name number key → IsContext key.arguments members arguments
      → asked + length key.queries ≤ most_asks → Says params keys before (line.Read name key_name members) (entry.Read request name number arguments (length key.queries))
  ends : {name : List ℕ} {request asked : ℕ} → IsOpen before name request asked → Says params keys before (line.End name) (entry.End request name)
  publishes : {set : List ℕ} → Says params keys before (line.Publish set) (entry.Publish (published before) set)

-- why a line says nothing after these entries, where it is line n
pub data SaysNone (params : List Parameter) (keys : List CacheKey) (before : List ScriptEntry) (n : ℕ) : ScriptLine → ScriptFault → Type 0 where
  begun_twice : {name : List ℕ} {members : List Member} {request asked : ℕ} → IsOpen before name request asked → SaysNone params keys before n (line.Begin name members) (BadLine n why.Begun)
  asks_unbegun : {name query : List ℕ} → IsFree before name → SaysNone params keys before n (line.Ask name query) (BadLine n why.Unbegun)
  reads_unbegun : {name key_name : List ℕ} {members : List Member} → IsFree before name → SaysNone params keys before n (line.Read name key_name members) (BadLine n why.Unbegun)
  no_key : {name key_name : List ℕ} {members : List Member} {request asked : ℕ} → IsOpen before name request asked → All (λ key. key.name ≢ key_name) keys
      → SaysNone params keys before n (line.Read name key_name members) (BadLine n why.Key)
  no_arguments : {name key_name : List ℕ} {members : List Member} {request asked number : ℕ} {key : CacheKey} → IsOpen before name request asked → HasKey keys key_name number key
      → ((arguments : Context) → ¬ (IsContext key.arguments members arguments)) → SaysNone params keys before n (line.Read name key_name members) (BadLine n why.Args)
  many_reads : {name key_name : List ℕ} {members : List Member} {request asked number : ℕ} {key : CacheKey} {arguments : Context} → IsOpen before name request asked → HasKey keys key_name number key
      → IsContext key.arguments members arguments → most_asks < asked + length key.queries → SaysNone params keys before n (line.Read name key_name members) (TooMany what.Asks most_asks)
  ends_unbegun : {name : List ℕ} → IsFree before name → SaysNone params keys before n (line.End name) (BadLine n why.Unbegun)
  no_context : {name : List ℕ} {members : List Member} → IsFree before name → ((context : Context) → ¬ (IsContext params members context))
      → SaysNone params keys before n (line.Begin name members) (BadLine n why.Context)
  many_requests : {name : List ℕ} {members : List Member} {context : Context} → IsFree before name → IsContext params members context → most_requests ≤ begun before
      → SaysNone params keys before n (line.Begin name members) (TooMany what.Requests most_requests)
  many_asks : {name query : List ℕ} {request asked : ℕ} → IsOpen before name request asked → most_asks ≤ asked → SaysNone params keys before n (line.Ask name query) (TooMany what.Asks most_asks)

-- the bytes are the JSON of a value that spells the line
abbrev pub IsLine : List ℕ → ScriptLine → Type 0
IsLine bytes l = (d : Data) × IsJson bytes d × Spells d l

-- what the bytes of the next line say after these entries
abbrev pub LineSays : List Parameter → List CacheKey → List ScriptEntry → List ℕ → ScriptEntry → Type 0
LineSays params keys before bytes e = (l : ScriptLine) × IsLine bytes l × Says params keys before l e

-- why the bytes of the next line, which is line n, say nothing after these entries
pub data LineFails (params : List Parameter) (keys : List CacheKey) (before : List ScriptEntry) (n : ℕ) (bytes : List ℕ) : ScriptFault → Type 0 where
  json : ((d : Data) → ¬ (IsJson bytes d)) → LineFails params keys before n bytes (BadLine n why.Json)
  shape : (d : Data) → IsJson bytes d → ((l : ScriptLine) → ¬ (Spells d l)) → LineFails params keys before n bytes (BadLine n why.Shape)
  says_none : {f : ScriptFault} (l : ScriptLine) → IsLine bytes l → SaysNone params keys before n l f → LineFails params keys before n bytes f

-- the lines say these entries, one by one, behind the entries before
abbrev pub LinesSay : List Parameter → List CacheKey → List ScriptEntry → List (List ℕ) → List ScriptEntry → Type 0
LinesSay params keys before [] [] = Unit {0}
LinesSay params keys before [] (e ∷ es) = ⊥
LinesSay params keys before (bytes ∷ lines) [] = ⊥
LinesSay params keys before (bytes ∷ lines) (e ∷ es) = LineSays params keys before bytes e × LinesSay params keys (before ++ e ∷ []) lines es

-- the bytes are this script
pub record ReadsScript (params : List Parameter) (keys : List CacheKey) (bytes : List ℕ) (script : Script) : Type 0 where
  pub few_lines : length (script_lines bytes) ≤ most_lines
  pub entries : LinesSay params keys [] (script_lines bytes) script.entries

-- the first line that says nothing has the fault
pub record HasBadLine (params : List Parameter) (keys : List CacheKey) (lines : List (List ℕ)) (f : ScriptFault) : Type 0 where
  pub front : List (List ℕ)
  pub bytes : List ℕ
  pub rest : List (List ℕ)
  pub before : List ScriptEntry
  pub splits : lines ≡ front ++ bytes ∷ rest
  pub says : LinesSay params keys [] front before
  pub fails : LineFails params keys before (length front + 1) bytes f

-- why the bytes are no script
pub data IsNoScript (params : List Parameter) (keys : List CacheKey) (bytes : List ℕ) : ScriptFault → Type 0 where
  many_lines : most_lines < length (script_lines bytes) → IsNoScript params keys bytes (TooMany what.Lines most_lines)
  bad_line : {f : ScriptFault} → length (script_lines bytes) ≤ most_lines → HasBadLine params keys (script_lines bytes) f → IsNoScript params keys bytes f

-- ---- What the entries of a script have to do with one another

-- the context of a new request has a value of its kind for each parameter
abbrev pub BeginFits : List Parameter → ScriptEntry → Type 0
BeginFits params (entry.Begin request name context) = ContextFits (kinds_of params) context
BeginFits params (entry.Ask request name query) = Unit {0}
BeginFits params (entry.Read request name key arguments questions) = Unit {0}
BeginFits params (entry.End request name) = Unit {0}
BeginFits params (entry.Publish number set) = Unit {0}

-- a read is of a key of the policy, with a value of its kind for each argument, and counts the key's queries
abbrev pub ReadFits : List CacheKey → ScriptEntry → Type 0
ReadFits keys (entry.Begin request name context) = Unit {0}
ReadFits keys (entry.Ask request name query) = Unit {0}
ReadFits keys (entry.Read request name number arguments questions) =
    (key : CacheKey) × (slice_get keys number ≡ Some key) × ContextFits (kinds_of key.arguments) arguments × (questions ≡ length key.queries)
ReadFits keys (entry.End request name) = Unit {0}
ReadFits keys (entry.Publish number set) = Unit {0}

-- begin entries are numbered from n on, and each question, each read and each end has a number of a begin entry before it
abbrev pub NumberedFrom : ℕ → List ScriptEntry → Type 0
NumberedFrom n [] = Unit {0}
NumberedFrom n (entry.Begin request name context ∷ es) = (request ≡ n) × NumberedFrom (n + 1) es
NumberedFrom n (entry.Ask request name query ∷ es) = (request < n) × NumberedFrom n es
NumberedFrom n (entry.Read request name key arguments questions ∷ es) = (request < n) × NumberedFrom n es
NumberedFrom n (entry.End request name ∷ es) = (request < n) × NumberedFrom n es
NumberedFrom n (entry.Publish number set ∷ es) = NumberedFrom n es

-- publish entries are numbered from n on
abbrev pub PublishedFrom : ℕ → List ScriptEntry → Type 0
PublishedFrom n [] = Unit {0}
PublishedFrom n (entry.Begin request name context ∷ es) = PublishedFrom n es
PublishedFrom n (entry.Ask request name query ∷ es) = PublishedFrom n es
PublishedFrom n (entry.Read request name key arguments questions ∷ es) = PublishedFrom n es
PublishedFrom n (entry.End request name ∷ es) = PublishedFrom n es
PublishedFrom n (entry.Publish number set ∷ es) = (number ≡ n) × PublishedFrom (n + 1) es

-- a request begins under a name that isn't open; a question, a read and an end are of the request that is open under their name; a table set that
-- is published has a name
abbrev pub EntryFits : List ScriptEntry → ScriptEntry → Type 0
EntryFits before (entry.Begin request name context) = IsFree before name × (request < most_requests)
EntryFits before (entry.Ask request name query) = (asked : ℕ) × IsOpen before name request asked × (asked < most_asks)
EntryFits before (entry.Read request name key arguments questions) = (asked : ℕ) × IsOpen before name request asked × (asked + questions ≤ most_asks)
EntryFits before (entry.End request name) = (asked : ℕ) × IsOpen before name request asked
EntryFits before (entry.Publish number set) = 0 < length set

-- each of these entries, after those before it
abbrev pub EntriesFit : List ScriptEntry → List ScriptEntry → Type 0
EntriesFit before [] = Unit {0}
EntriesFit before (e ∷ es) = EntryFits before e × EntriesFit (before ++ e ∷ []) es

-- a script for a policy with these parameters and cache keys
pub record IsScript (params : List Parameter) (keys : List CacheKey) (script : Script) : Type 0 where
  pub few_entries : length script.entries ≤ most_lines
  pub contexts : All (BeginFits params) script.entries
  pub reads : All (ReadFits keys) script.entries
  pub numbered : NumberedFrom 0 script.entries
  pub published : PublishedFrom 0 script.entries
  pub fit : EntriesFit [] script.entries

-- the bytes are read as the script that they are, and refused for the fault that they have
pub record ScriptIsExact : Type 0 where
  pub reads : (params : List Parameter) (keys : List CacheKey) (bytes : List ℕ) (script : Script) → (script_of params keys bytes ≡ Ok script) ↔ ReadsScript params keys bytes script
  pub refuses : (params : List Parameter) (keys : List CacheKey) (bytes : List ℕ) (f : ScriptFault) → (script_of params keys bytes ≡ Err f) ↔ IsNoScript params keys bytes f

-- a begin line under a free name whose context gives a parameter null says nothing, for its context
abbrev pub NullIsNoContext : Type 0
NullIsNoContext = (params : List Parameter) (keys : List CacheKey) (before : List ScriptEntry) (n number : ℕ) (param : Parameter) (name : List ℕ) (members : Members)
    → slice_get params number ≡ Some param → get_member param.name members ≡ Some null → IsFree before name
    → SaysNone params keys before n (line.Begin name (given_members members)) (BadLine n why.Context)
