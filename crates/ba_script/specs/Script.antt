-- What one line of a script is, over the reading of its bytes as JSON.
use Rattle.std.specs.Prelude.{◌≡◌, ℕ, ℤ, ◌<◌, ◌≤◌, ◌↔◌, ◌&&◌, List, [], ◌∷◌, nat_lt, nat_le, length, codes, Option, Some, None, option_and_then, Result, Ok, Err, if◌then◌else◌}
use Rattle.std.specs.Str.{IsUtf8, bytes_eq, is_utf8}
use Rattle.serde_json.specs.Data.{Data, string, object, Members, no_members, member}
use Rattle.serde_json.specs.Find.{as_i64, as_number, as_object, as_str}
use Rattle.serde_json.specs.Read.{read}
use Rattle.ba_model.specs.Readings.{◌>>=◌}
use Rattle.ba_model.specs.Limits.{most_name_bytes}
use Rattle.ba_script.specs.declared.line.Given.{Given}
use Rattle.ba_script.specs.declared.line.Given.TheVariants.{Int, Text, Other}
use Rattle.ba_script.specs.declared.line.Member.{Member}
use Rattle.ba_script.specs.declared.line.ScriptLine.{ScriptLine}
use Rattle.ba_script.specs.declared.line.ScriptLine.TheVariants.{Begin, Ask, Read, End, Publish}
use Rattle.ba_script.specs.declared.fault.LineFault.{LineFault}
use Rattle.ba_script.specs.declared.fault.LineFault.TheVariants.{Json, Shape}

abbrev pub or_shape : {A : Type 0} → Option A → Result A LineFault
or_shape None = Err Shape
or_shape (Some x) = Ok x

-- any text
abbrev pub text_at : Data → Result (List ℕ) LineFault
text_at d = or_shape (as_str d)

abbrev pub if_name : List ℕ → Result (List ℕ) LineFault
if_name s = if nat_lt 0 (length s) && nat_le (length s) most_name_bytes then Ok s else Err Shape

-- a text of 1 to 64 bytes
unfoldable pub name_at : Data → Result (List ℕ) LineFault
name_at d = text_at d >>= if_name

abbrev pub if_some : List ℕ → Result (List ℕ) LineFault
if_some s = if nat_lt 0 (length s) then Ok s else Err Shape

-- a text that isn't empty
unfoldable pub set_at : Data → Result (List ℕ) LineFault
set_at d = text_at d >>= if_some

abbrev pub given_from : Option (List ℕ) → Option ℤ → Given
given_from (Some s) n = Text s
given_from None (Some n) = Int n
given_from None None = Other

-- a text, a whole number of 64 bits with a sign, or anything else, as null is
abbrev pub given_of : Data → Given
given_of d = given_from (as_str d) (option_and_then as_i64 (as_number d))

-- each member with its value, in the order of the names
abbrev pub given_members : Members → List Member
given_members no_members = []
given_members (member k d rest) = record { name = k; value = given_of d } ∷ given_members rest

abbrev pub given_or : Option Members → Result (List Member) LineFault
given_or None = Err Shape
given_or (Some members) = Ok (given_members members)

abbrev pub context_at : Data → Result (List Member) LineFault
context_at d = given_or (as_object d)

-- an object with this one member
unfoldable pub one_at : List ℕ → Data → Result ScriptLine LineFault
one_at k d =
    if bytes_eq k (codes "end") then (name_at d >>= λ name. Ok (End name))
    else (if bytes_eq k (codes "publish") then (set_at d >>= λ set. Ok (Publish set))
    else Err Shape)

-- an object with these two members
unfoldable pub two_at : List ℕ → Data → List ℕ → Data → Result ScriptLine LineFault
two_at k d l e =
    if bytes_eq k (codes "ask") && bytes_eq l (codes "query") then (name_at d >>= λ name. text_at e >>= λ query. Ok (Ask name query))
    else (if bytes_eq k (codes "begin") && bytes_eq l (codes "context") then (name_at d >>= λ name. context_at e >>= λ context. Ok (Begin name context))
    else Err Shape)

-- an object with these three members
unfoldable pub three_at : List ℕ → Data → List ℕ → Data → List ℕ → Data → Result ScriptLine LineFault
three_at k d l e m f =
    if bytes_eq k (codes "args") && (bytes_eq l (codes "key") && bytes_eq m (codes "read")) then (context_at d >>= λ args. text_at e >>= λ key. name_at f >>= λ name. Ok (Read name key args))
    else Err Shape

abbrev pub rest_at : List ℕ → Data → Members → Result ScriptLine LineFault
rest_at k d no_members = one_at k d
rest_at k d (member l e no_members) = two_at k d l e
rest_at k d (member l e (member m f no_members)) = three_at k d l e m f
rest_at k d (member l e (member m f (member o g more))) = Err Shape

-- the members of an object, in the order of their keys
abbrev pub form_at : Members → Result ScriptLine LineFault
form_at no_members = Err Shape
form_at (member k d rest) = rest_at k d rest

abbrev pub form_or : Option Members → Result ScriptLine LineFault
form_or None = Err Shape
form_or (Some members) = form_at members

-- the line that a JSON value is
abbrev pub line_at : Data → Result ScriptLine LineFault
line_at d = form_or (as_object d)

abbrev pub line_or : Option Data → Result ScriptLine LineFault
line_or None = Err Json
line_or (Some d) = line_at d

-- the line that the bytes are
unfoldable pub script_line_of : List ℕ → Result ScriptLine LineFault
script_line_of bytes = if is_utf8 bytes then line_or (read bytes) else Err Json

-- ---- What a reading means, apart from how it is found

-- the name of a request
pub record IsName (name : List ℕ) : Type 0 where
  pub least : 0 < length name
  pub most : length name ≤ most_name_bytes

-- the value is an object with exactly the keys of the line's form, of these values
abbrev pub Spells : Data → ScriptLine → Type 0
Spells d (Begin name context) = IsName name × ((members : Members) × (context ≡ given_members members)
    × (d ≡ object (member (codes "begin") (string name) (member (codes "context") (object members) no_members))))
Spells d (Ask name query) = IsName name × (d ≡ object (member (codes "ask") (string name) (member (codes "query") (string query) no_members)))
Spells d (Read name key args) = IsName name × ((members : Members) × (args ≡ given_members members)
    × (d ≡ object (member (codes "args") (object members) (member (codes "key") (string key) (member (codes "read") (string name) no_members)))))
Spells d (End name) = IsName name × (d ≡ object (member (codes "end") (string name) no_members))
Spells d (Publish set) = (0 < length set) × (d ≡ object (member (codes "publish") (string set) no_members))

-- the bytes are the UTF-8 of a JSON text of this value
pub record IsJson (bytes : List ℕ) (d : Data) : Type 0 where
  pub utf8 : IsUtf8 bytes
  pub reads : read bytes ≡ Some d

-- The bytes read as a line exactly where they are the JSON of a value that spells it, as `Json` exactly where they are the JSON of no value, and
-- as `Shape` exactly where they are the JSON of a value that spells none.
pub record ScriptLineIsExact : Type 0 where
  pub line : (bytes : List ℕ) (it : ScriptLine) → (script_line_of bytes ≡ Ok it) ↔ ((d : Data) × IsJson bytes d × Spells d it)
  pub json : (bytes : List ℕ) → (script_line_of bytes ≡ Err Json) ↔ ((d : Data) → ¬ (IsJson bytes d))
  pub shape : (bytes : List ℕ) → (script_line_of bytes ≡ Err Shape) ↔ ((d : Data) × IsJson bytes d × ((it : ScriptLine) → ¬ (Spells d it)))
