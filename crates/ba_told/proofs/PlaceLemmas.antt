-- Where a row is recorded once a part more stands in front.
use Rattle.std.proofs.Common.{◌≡◌, ℕ, zero, suc, ◌+◌, ◌<◌, ◌≤◌, Bool, true, false, List, [], ◌∷◌, length, IsTrue, refl, sym, ap, subst, arith, add-one}
use Rattle.std.specs.Prelude.{◌↔◌, Some, slice_get}
use Rattle.ba_model.specs.declared.policy.Context.{Context}
use Rattle.ba_model.specs.declared.query.Part.{Part}
use Rattle.ba_model.specs.declared.schema.Schema.{Schema}
use Rattle.ba_model.specs.declared.value.Value.{Value}
use Rattle.ba_parts.specs.Parts.{CanBeOf, Chosen}
use Rattle.ba_parts.specs.Parts.Chosen.{nothing, taken, left_out}
use Rattle.ba_model.specs.Limits.{most_parts}
use Rattle.ba_told.specs.Places.{IsPlace, IsShort, behind}
use Rattle.ba_told.specs.declared.entries.Place.{Place}
use Rattle.ba_told.specs.declared.entries.Place.TheVariants.{Nowhere, Alone, Whole}

later_at : {X : Type 0} (x : X) (xs : List X) (number : ℕ) (y : X) → slice_get xs number ≡ Some y → slice_get (x ∷ xs) (number + 1) ≡ Some y
later_at x xs number y at = subst (λ n. slice_get (x ∷ xs) n ≡ Some y) (sym (add-one number)) at

not_true : IsTrue false → ⊥
not_true e = cc

module _ (s : Schema) (c : Context) (row : List Value) (part : Part) (parts : List Part) where
  place_taken : CanBeOf s c row part → (place : Place) → IsPlace s c row parts place → IsPlace s c row (part ∷ parts) (behind true place)
  place_taken can Nowhere h = record { part = part; at = refl; chosen = taken can h }
  place_taken can (Alone number) h = record { one = part; other = h.part; more = []; chosen = taken can h.chosen }
  place_taken can Whole h = record { one = part; other = h.one; more = h.other ∷ h.more; chosen = taken can h.chosen }

  place_left : (CanBeOf s c row part → ⊥) → (place : Place) → IsPlace s c row parts place → IsPlace s c row (part ∷ parts) (behind false place)
  place_left cannot Nowhere h = left_out cannot h
  place_left cannot (Alone number) h = record { part = h.part; at = later_at part parts number h.part h.at; chosen = left_out cannot h.chosen }
  place_left cannot Whole h = record { one = h.one; other = h.other; more = h.more; chosen = left_out cannot h.chosen }

  pub place_behind : (is : Bool) → (IsTrue is ↔ CanBeOf s c row part) → (place : Place) → IsPlace s c row parts place → IsPlace s c row (part ∷ parts) (behind is place)
  place_behind true tells place h = place_taken (tells.0 refl) place h
  place_behind false tells place h = place_left (λ can. not_true (tells.1 can)) place h

-- of the parts in whose front it stands
pub place_in : (s : Schema) (c : Context) (row : List Value) (part : Part) (parts all : List Part) (is : Bool) (place result : Place) → all ≡ part ∷ parts → result ≡ behind is place → (IsTrue is ↔ CanBeOf s c row part)
    → IsPlace s c row parts place → IsPlace s c row all result
place_in s c row part parts all is place result all_is result_is tells h =
    subst (λ z. IsPlace s c row z result) (sym all_is) (subst (λ z. IsPlace s c row (part ∷ parts) z) (sym result_is) (place_behind s c row part parts is tells place h))

-- no part gives a row where there is none
pub nowhere_in : (s : Schema) (c : Context) (row : List Value) (parts : List Part) → length parts ≡ 0 → Chosen (CanBeOf s c row) parts []
nowhere_in s c row [] none = nothing
nowhere_in s c row (part ∷ parts) none = absurd (omega (arith, none))

below : (xs : List Part) (n : ℕ) (x : Part) → slice_get xs n ≡ Some x → n < length xs
below [] n x e = cc
below (y ∷ xs) zero x e = omega arith
below (y ∷ xs) (suc n) x e = let rest = below xs n x e in omega (arith, rest)

-- the number of a place is that of a part
pub place_short : (s : Schema) (c : Context) (row : List Value) (part : Part) (parts all : List Part) (place : Place) → all ≡ part ∷ parts → length all ≤ most_parts → IsPlace s c row parts place → IsShort place
place_short s c row part parts all Nowhere all_is few h = tt
place_short s c row part parts all (Alone number) all_is few h =
    let low = below parts number h.part h.at in
    let long : length all ≡ suc (length parts) = ap length all_is in
    omega (arith, low, long, few)
place_short s c row part parts all Whole all_is few h = tt
