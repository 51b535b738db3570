-- When a count is above its limit.
use Rattle.std.specs.Prelude.{◌≡◌, ◌⊎◌, ℕ, List, Err}
use Rattle.ba_model.specs.declared.limits.Counted.{Counted}
use Rattle.ba_model.specs.declared.limits.Counted.TheVariants.{FileBytes}
use Rattle.ba_outside.specs.Seen.{FilesSeen}
use Rattle.ba_plan.specs.Ends.{LongAt}
use Rattle.ba_plan.specs.declared.stop.Stop.TheVariants.{Refused}
use Rattle.ba_input.specs.Reads.{Reads}
use Rattle.ba_wire.specs.declared.fault.Fault.TheVariants.{Limit}

-- the limit is of a count in what was read, or of the bytes of the last name asked for
abbrev pub IsLimit : List (List ℕ) → Counted → ℕ → FilesSeen → FilesSeen → Type 0
IsLimit words what limit old new =
    Reads words old new (Err (Refused (Limit what limit)))
    ⊎ ((what ≡ FileBytes) × ((file : List ℕ) × LongAt file limit old new))
