-- Values that are fixed for some of a template's variables.
use Rattle.std.specs.Prelude.{◌≡◌, ℕ, Bool, true, IsTrue, List, Option, Some, None, map, slice_get}
use Rattle.std.specs.List.{AllZip}
use Rattle.ba_model.specs.declared.value.Value.{Value}

-- the value is the one that is fixed, if one is
abbrev pub IsFixedTo : Option Value → Value → Type 0
IsFixedTo None v = Unit {0}
IsFixedTo (Some fixed) v = fixed ≡ v

-- the values, one for each variable, are those that are fixed
abbrev pub Extends : List (Option Value) → List Value → Type 0
Extends bound values = AllZip IsFixedTo bound values

-- Of the values that extend the old ones, those of which P holds are exactly those that extend the new ones; where that isn't told, P holds of none of them.
pub record Narrows (P : List Value → Type 0) (old new : List (Option Value)) (told : Bool) : Type 0 where
  pub sound : (values : List Value) → IsTrue told → Extends new values → Extends old values × P values
  pub complete : (values : List Value) → Extends old values → P values → IsTrue told × Extends new values

-- what is fixed once P holds, if it can
abbrev pub IsNarrowed : (List Value → Type 0) → List (Option Value) → Option (List (Option Value)) → Type 0
IsNarrowed P old None = (values : List Value) → Extends old values → ¬ (P values)
IsNarrowed P old (Some new) = Narrows P old new true

-- the values that are fixed, where none is free
abbrev pub AreAllFixed : List (Option Value) → Option (List Value) → Type 0
AreAllFixed bound None = (n : ℕ) × (slice_get bound n ≡ Some None)
AreAllFixed bound (Some values) = bound ≡ map Some values
