-- JSON values as what a proof file has: lists, texts and numbers.
use Rattle.std.specs.Prelude.{ℕ, List, [], ◌∷◌, codes, nat_le, Option, Some, None, option_and_then, option_map, Result, Ok, Err, if◌then◌else◌}
use Rattle.serde_json.specs.Data.{Data, Items, no_items, item}
use Rattle.serde_json.specs.Find.{as_array, as_number, as_str, as_u64}
use Rattle.ba_proof.specs.declared.fault.ProofFault.{ProofFault}
use Rattle.ba_proof.specs.declared.fault.ProofFault.TheVariants.{BadField}
use Rattle.ba_proof.specs.declared.fault.ProofField.{ProofField}
use Rattle.ba_proof.specs.declared.fault.ProofField.TheVariants.{Version, Context, Entries, Goal, Steps, Keys}

abbrev pub items_list : Items → List Data
items_list no_items = []
items_list (item d ds) = d ∷ items_list ds

-- the items of an array
abbrev pub as_list : Data → Option (List Data)
as_list d = option_map items_list (as_array d)

-- a number of 32 bits
abbrev pub short : ℕ → Option ℕ
short n = if nat_le n 0xffff_ffff then Some n else None

-- a whole number from 0 to 2^64 - 1
abbrev pub as_long : Data → Option ℕ
as_long d = option_and_then as_u64 (as_number d)

-- a whole number from 0 to 2^32 - 1
unfoldable pub as_short : Data → Option ℕ
as_short d = option_and_then short (as_long d)

abbrev pub field_name : ProofField → List ℕ
field_name Version = codes "version"
field_name Context = codes "context"
field_name Entries = codes "entries"
field_name Goal = codes "goal"
field_name Steps = codes "steps"
field_name Keys = codes "keys"

-- ---- the same, where anything else is a bad field

abbrev pub bad : {A : Type 0} → ProofField → Result A ProofFault
bad field = Err (BadField field)

abbrev pub or_bad : {A : Type 0} → ProofField → Option A → Result A ProofFault
or_bad field None = Err (BadField field)
or_bad field (Some x) = Ok x

abbrev pub list_at : ProofField → Data → Result (List Data) ProofFault
list_at field d = or_bad field (as_list d)

abbrev pub text_at : ProofField → Data → Result (List ℕ) ProofFault
text_at field d = or_bad field (as_str d)
