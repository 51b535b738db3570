-- The number that digits say.
use Rattle.std.proofs.Common.{◌≡◌, ℕ, suc, ◌+◌, ◌-◌, ◌*◌, ◌^◌, ◌<◌, ◌≤◌, ℤ, pos, neg_ℤ, true, nat_le, List, [], ◌∷◌, length, drop, drop-cons, get_or, inl, inr, refl, sym, ap, ◌∙◌, ◌⊎◌, arith}
use Rattle.std.specs.List.{list_all}
use Rattle.std.proofs.lemmas.Bool.{and_parts, leb-true, ne_eqb}
use Rattle.ba_lex.specs.Spelling.{SpellsNumber, are_digits, digits_value, is_digit, value_after}
use Rattle.ba_lex.specs.Tokens.{signed_value}

-- more digits say no less
grows : (n : ℕ) (ds : List ℕ) → n ≤ value_after n ds
grows n [] = omega arith
grows n (d ∷ ds) = let g = grows (10 * n + (d - 48)) ds in omega (arith, g)

-- digits past 64 bits stay so
over : (n : ℕ) (ds : List ℕ) (at : ℕ) → at < length ds → 2 ^ 64 ≤ 10 * n + (get_or ds at 0 - 48) → value_after n (drop at ds) ≡ digits_value ds → 2 ^ 64 ≤ digits_value ds
over n ds at h k e =
    let cut : value_after n (drop at ds) ≡ value_after (10 * n + (get_or ds at 0 - 48)) (drop (suc at) ds) = ap (value_after n) (drop-cons ds at 0 h) in
    let g = grows (10 * n + (get_or ds at 0 - 48)) (drop (suc at) ds) in
    let same = sym cut ∙ e in
    omega (arith, k, g, same)

pub over_mul : (n : ℕ) (ds : List ℕ) (at : ℕ) → at < length ds → (10 * n < 2 ^ 64 → ⊥) → value_after n (drop at ds) ≡ digits_value ds → 2 ^ 64 ≤ digits_value ds
over_mul n ds at h k e = over n ds at h (omega (arith, k)) e

pub over_add : (n : ℕ) (ds : List ℕ) (at m d : ℕ) → at < length ds → m ≡ 10 * n → d ≡ get_or ds at 0 - 48 → (m + d < 2 ^ 64 → ⊥)
    → value_after n (drop at ds) ≡ digits_value ds → 2 ^ 64 ≤ digits_value ds
over_add n ds at m d h p q k e = over n ds at h (omega (arith, k, p, q)) e

-- the first of some digits is one
first_digit : (ds : List ℕ) → are_digits ds ≡ true → (48 ≤ get_or ds 0 0) × (get_or ds 0 0 ≤ 57) × (0 < length ds)
first_digit [] h = cc
first_digit (d ∷ ds) h =
    let is = and_parts (nat_le 48 d) (nat_le d 57) (and_parts (is_digit d) (list_all is_digit ds) h).0 in
    (leb-true 48 d is.0, leb-true d 57 is.1, omega arith)

plain_value : (ds : List ℕ) → are_digits ds ≡ true → signed_value ds ≡ pos (digits_value ds)
plain_value [] h = cc
plain_value (d ∷ ds) h = let f = first_digit (d ∷ ds) h in rw (ne_eqb d 45 (λ e. absurd (omega (arith, f.0, e)))) refl

-- the value of a number's spelling is the number
pub signed_value_is : (bs : List ℕ) (n : ℤ) → SpellsNumber bs n → signed_value bs ≡ n
signed_value_is bs n s = by s.sign
  where
    by : ((bs ≡ s.digits) × (n ≡ pos (digits_value s.digits))) ⊎ ((bs ≡ 45 ∷ s.digits) × (n ≡ neg_ℤ (pos (digits_value s.digits)))) → signed_value bs ≡ n
    by (inl e) = rw (e.0, e.1) (plain_value s.digits s.are)
    by (inr e) = rw (e.0, e.1) refl
