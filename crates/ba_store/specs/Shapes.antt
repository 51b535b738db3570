-- JSON values as what a template's line has. What is something else is the field's fault.
use Rattle.std.specs.Prelude.{ℕ, List, codes, Option, Some, None, Result, Ok, Err}
use Rattle.serde_json.specs.Data.{Data}
use Rattle.serde_json.specs.Find.{as_str}
use Rattle.ba_proof.specs.Shapes.{as_list, as_short}
use Rattle.ba_store.specs.declared.fault.StoreField.{StoreField}
use Rattle.ba_store.specs.declared.fault.StoreField.TheVariants.{Version, Vars, Goal, Entries, Condition, Steps, Keys}

abbrev pub field_name : StoreField → List ℕ
field_name Version = codes "version"
field_name Vars = codes "vars"
field_name Goal = codes "goal"
field_name Entries = codes "entries"
field_name Condition = codes "condition"
field_name Steps = codes "steps"
field_name Keys = codes "keys"

abbrev pub or_bad : {A : Type 0} → StoreField → Option A → Result A StoreField
or_bad field None = Err field
or_bad field (Some x) = Ok x

abbrev pub list_at : StoreField → Data → Result (List Data) StoreField
list_at field d = or_bad field (as_list d)

abbrev pub text_at : StoreField → Data → Result (List ℕ) StoreField
text_at field d = or_bad field (as_str d)

-- a whole number from 0 to 2^32 - 1
abbrev pub number_at : StoreField → Data → Result ℕ StoreField
number_at field d = or_bad field (as_short d)
