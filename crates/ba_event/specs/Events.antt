-- What a line of a conversation says, over the reading of its bytes as JSON.
use Rattle.std.specs.Prelude.{◌≡◌, ◌↔◌, ℕ, ℤ, ◌&&◌, List, [], ◌∷◌, codes, Option, Some, None, option_and_then, Result, Ok, Err, if◌then◌else◌}
use Rattle.std.specs.Str.{bytes_eq, is_utf8}
use Rattle.serde_json.specs.Data.{Data, Num, unsigned, null, boolean, number, string, array, object, Items, no_items, item, Members, no_members, member}
use Rattle.serde_json.specs.Find.{as_array, as_i64, as_number, as_object, as_u64}
use Rattle.serde_json.specs.Read.{read}
use Rattle.ba_model.specs.Readings.{◌>>=◌}
use Rattle.ba_model.specs.declared.value.Value.{Value}
use Rattle.ba_model.specs.declared.value.Value.TheVariants.{Null, Int, Text}
use Rattle.ba_event.specs.declared.event.Event.{Event}
use Rattle.ba_event.specs.declared.event.Event.TheVariants.{Begin, Ask, Read, Told, End}
use Rattle.ba_event.specs.declared.event.EventFault.{EventFault}
use Rattle.ba_event.specs.declared.event.EventFault.TheVariants.{Json, Shape}
use Rattle.ba_script.specs.Script.{IsJson, Spells, script_line_of}
use Rattle.ba_script.specs.declared.fault.LineFault.{LineFault}
use Rattle.ba_script.specs.declared.fault.LineFault.TheVariants as fault
use Rattle.ba_script.specs.declared.line.ScriptLine.{ScriptLine}
use Rattle.ba_script.specs.declared.line.ScriptLine.TheVariants as line

-- ---- told rows

abbrev pub or_shape : {A : Type 0} → Option A → Result A EventFault
or_shape None = Err Shape
or_shape (Some x) = Ok x

abbrev pub number_value : Option ℤ → Result Value EventFault
number_value None = Err Shape
number_value (Some n) = Ok (Int n)

-- null, a text, or a whole number of 64 bits with a sign
unfoldable pub value_at : Data → Result Value EventFault
value_at null = Ok Null
value_at (boolean b) = Err Shape
value_at (number n) = number_value (as_i64 n)
value_at (string s) = Ok (Text s)
value_at (array ds) = Err Shape
value_at (object ms) = Err Shape

-- what each item is, in order
abbrev pub each_item : {A : Type 0} → (Data → Result A EventFault) → Items
    → Result (List A) EventFault
each_item f no_items = Ok []
each_item f (item d ds) = f d >>= λ x. (each_item f ds >>= λ xs. Ok (x ∷ xs))

-- an array of values
unfoldable pub row_at : Data → Result (List Value) EventFault
row_at d = or_shape (as_array d) >>= each_item value_at

-- an array of rows
unfoldable pub rows_at : Data → Result (List (List Value)) EventFault
rows_at d = or_shape (as_array d) >>= each_item row_at

abbrev pub number_at : Data → Result ℕ EventFault
number_at d = or_shape (option_and_then as_u64 (as_number d))

-- an object with exactly the members `rows` and `told`
abbrev pub told_form : Members → Result Event EventFault
told_form no_members = Err Shape
told_form (member k d no_members) = Err Shape
told_form (member k d (member l e no_members)) =
    if bytes_eq k (codes "rows") && bytes_eq l (codes "told")
    then (number_at e >>= λ line. rows_at d >>= λ rows. Ok (Told line rows)) else Err Shape
told_form (member k d (member l e (member m f more))) = Err Shape

abbrev pub told_at : Data → Result Event EventFault
told_at d = or_shape (as_object d) >>= told_form

abbrev pub told_or : Option Data → Result Event EventFault
told_or None = Err Json
told_or (Some d) = told_at d

unfoldable pub told_of : List ℕ → Result Event EventFault
told_of bytes = if is_utf8 bytes then told_or (read bytes) else Err Json

-- ---- lines

-- what a line of a script is in a conversation, where no table set is published
abbrev pub of_script_line : ScriptLine → Result Event EventFault
of_script_line (line.Begin name context) = Ok (Begin name context)
of_script_line (line.Ask name query) = Ok (Ask name query)
of_script_line (line.Read name key args) = Ok (Read name key args)
of_script_line (line.End name) = Ok (End name)
of_script_line (line.Publish set) = Err Shape

-- a line of a script, or else told rows
abbrev pub event_from : Result ScriptLine LineFault → Result Event EventFault
    → Result Event EventFault
event_from (Ok it) told = of_script_line it
event_from (Err fault.Json) told = Err Json
event_from (Err fault.Shape) told = told
event_from (Err fault.Begun) told = told
event_from (Err fault.Unbegun) told = told
event_from (Err fault.Key) told = told
event_from (Err fault.Args) told = told
event_from (Err fault.Context) told = told

-- what the bytes of a line say
abbrev pub event_of : List ℕ → Result Event EventFault
event_of bytes = event_from (script_line_of bytes) (told_of bytes)

-- ---- What a reading means, apart from how it is found

-- null, a whole number of 64 bits with a sign, or a text
abbrev pub SpellsValue : Data → Value → Type 0
SpellsValue d Null = d ≡ null
SpellsValue d (Int n) = (m : Num) × (d ≡ number m) × (as_i64 m ≡ Some n)
SpellsValue d (Text s) = d ≡ string s

-- these items spell these, one by one
abbrev pub SpellEach : {A : Type 0} → (Data → A → Type 0) → Items → List A → Type 0
SpellEach Spell no_items [] = Unit {0}
SpellEach Spell no_items (x ∷ xs) = ⊥
SpellEach Spell (item d ds) [] = ⊥
SpellEach Spell (item d ds) (x ∷ xs) = Spell d x × SpellEach Spell ds xs

-- an array of values
abbrev pub SpellsRow : Data → List Value → Type 0
SpellsRow d row = (ds : Items) × (d ≡ array ds) × SpellEach SpellsValue ds row

-- an array of rows
abbrev pub SpellsRows : Data → List (List Value) → Type 0
SpellsRows d rows = (ds : Items) × (d ≡ array ds) × SpellEach SpellsRow ds rows

-- the value is an object with exactly the keys of the event's form, of these values
abbrev pub SpellsEvent : Data → Event → Type 0
SpellsEvent d (Begin name context) = Spells d (line.Begin name context)
SpellsEvent d (Ask name query) = Spells d (line.Ask name query)
SpellsEvent d (Read name key args) = Spells d (line.Read name key args)
SpellsEvent d (Told n rows) = (e : Data) × SpellsRows e rows × (d ≡ object
    (member (codes "rows") e (member (codes "told") (number (unsigned n)) no_members)))
SpellsEvent d (End name) = Spells d (line.End name)

-- The bytes read as an event exactly where they are the JSON of a value that spells it, as `Json`
-- exactly where they are the JSON of no value, and as `Shape` exactly where they are the JSON of a
-- value that spells none.
pub record EventIsExact : Type 0 where
  pub event : (bytes : List ℕ) (it : Event)
      → (event_of bytes ≡ Ok it) ↔ ((d : Data) × IsJson bytes d × SpellsEvent d it)
  pub json : (bytes : List ℕ) → (event_of bytes ≡ Err Json) ↔ ((d : Data) → ¬ (IsJson bytes d))
  pub shape : (bytes : List ℕ) → (event_of bytes ≡ Err Shape)
      ↔ ((d : Data) × IsJson bytes d × ((it : Event) → ¬ (SpellsEvent d it)))
