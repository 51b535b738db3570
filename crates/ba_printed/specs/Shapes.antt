-- JSON values as what a printed line has: texts, numbers, lists, and fields under their keys. What is something else makes no form.
use Rattle.std.specs.Prelude.{◌&&◌, ℕ, Bool, true, false, List, [], ◌∷◌, Option, Some, None, option_and_then, Result, Ok, Err, ⊤, if◌then◌else◌}
use Rattle.std.specs.List.{list_any}
use Rattle.std.specs.Str.{bytes_eq}
use Rattle.serde_json.specs.Data.{Data, Members, no_members, member}
use Rattle.serde_json.specs.Find.{as_bool, as_object, as_str, get}
use Rattle.ba_model.specs.Readings.{◌>>=◌, each}
use Rattle.ba_proof.specs.Shapes.{as_list, as_long}
use Rattle.ba_printed.specs.declared.shapes.FormFault.{FormFault}
use Rattle.ba_printed.specs.declared.shapes.FormFault.TheVariants.{NoForm}

abbrev pub or_form : {A : Type 0} → Option A → Result A FormFault
or_form None = Err NoForm
or_form (Some x) = Ok x

abbrev pub only_if : Bool → Result ⊤ FormFault
only_if b = if b then Ok tt else Err NoForm

-- ---- values

abbrev pub text_of : Data → Result (List ℕ) FormFault
text_of d = or_form (as_str d)

-- a whole number from 0 to 2^64 - 1
abbrev pub long_of : Data → Result ℕ FormFault
long_of d = or_form (as_long d)

abbrev pub list_of : Data → Result (List Data) FormFault
list_of d = or_form (as_list d)

unfoldable pub longs_of : Data → Result (List ℕ) FormFault
longs_of d = list_of d >>= each long_of

-- ---- the fields of an object

abbrev pub field : List ℕ → Data → Result Data FormFault
field name d = or_form (get name d)

unfoldable pub text_in : List ℕ → Data → Result (List ℕ) FormFault
text_in name d = field name d >>= text_of

unfoldable pub long_in : List ℕ → Data → Result ℕ FormFault
long_in name d = field name d >>= long_of

-- the field is this text
unfoldable pub word_in : List ℕ → List ℕ → Data → Result ⊤ FormFault
word_in word name d = text_in name d >>= λ it. only_if (bytes_eq it word)

abbrev pub is_true : Data → Result ⊤ FormFault
is_true d = or_form (as_bool d) >>= only_if

-- ---- its keys

-- they are exactly these, which stand in the order of their bytes
abbrev pub keys_are : List (List ℕ) → Members → Bool
keys_are [] no_members = true
keys_are [] (member k d more) = false
keys_are (name ∷ names) no_members = false
keys_are (name ∷ names) (member k d more) = bytes_eq k name && keys_are names more
