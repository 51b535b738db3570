-- The numbers that std's `parse` reads.
use Rattle.std.proofs.Common.{◌≡◌, ◌⊎◌, ◌∙◌, ◌&&◌, ◌<◌, ◌≤◌, ◌^◌, inl, inr, ℕ, zero, suc, List, [], ◌∷◌, Bool, true, false, cond, length, nat_le, nat_lt, Some, None, Result, Ok, Err, ap, refl, subst, sym}
use Rattle.std.proofs.Common.{arith}
use Rattle.std.proofs.lemmas.Bool.Decides.{nat_tests}
use Rattle.std.specs.List.{list_all}
use Rattle.std.specs.Char.{digit_value}
use Rattle.std.specs.Str.Parse.{AllDigits, ParsesUnsigned, digits_value, without_leading_plus}
use Rattle.clap.specs.ValueTests.{is_numeral}
use Rattle.ba_command.specs.Words.{number_in}

both : (a b : Bool) → a ≡ true → b ≡ true → (a && b) ≡ true
both true b e f = f
both false b e f = cc e

halves : (a b : Bool) → (a && b) ≡ true → (a ≡ true) × (b ≡ true)
halves true b e = (refl, e)
halves false b e = cc e

tested : (ds : List ℕ) → AllDigits 10 ds → list_all (λ c. nat_lt (digit_value c) 10) ds ≡ true
tested [] h = refl
tested (c ∷ cs) h = both _ _ (let l : digit_value c < 10 = h.0 in grind (arith, nat_tests)) (tested cs h.1)

told : (ds : List ℕ) → list_all (λ c. nat_lt (digit_value c) 10) ds ≡ true → AllDigits 10 ds
told [] h = tt
told (c ∷ cs) h = let p = halves _ _ h in (let l : nat_lt (digit_value c) 10 ≡ true = p.0 in grind (arith, nat_tests), told cs p.1)

-- a number that is read, and within
pub read_number : {E : Type 0} (least most n : ℕ) (text : List ℕ) (r : Result ℕ E) → ParsesUnsigned 64 10 text r → r ≡ Ok n → least ≤ n → n ≤ most → Some n ≡ number_in least most (Some text)
read_number least most n text (Ok x) h e some within =
    let ds = without_leading_plus text in
    let same : n ≡ digits_value 10 ds = sym (cc e) ∙ h.1 in
    let passes : (is_numeral ds && (nat_le least (digits_value 10 ds) && nat_le (digits_value 10 ds) most)) ≡ true =
    both (is_numeral ds) (nat_le least (digits_value 10 ds) && nat_le (digits_value 10 ds) most) (both _ _ (let l : 0 < length ds = h.0.0.0 in grind (arith, nat_tests)) (tested ds h.0.0.1))
    (both (nat_le least (digits_value 10 ds)) (nat_le (digits_value 10 ds) most) (let l : least ≤ digits_value 10 ds = subst (λ z. least ≤ z) same some in grind (arith, nat_tests))
    (let l : digits_value 10 ds ≤ most = subst (λ z. z ≤ most) same within in grind (arith, nat_tests))) in
    rw passes (ap Some same)
read_number least most n text (Err x) h e some within = cc e

-- a text that is refused
pub no_number : {E : Type 0} (least most : ℕ) (text : List ℕ) (r : Result ℕ E) (x : E) → most < 2 ^ 64 → ParsesUnsigned 64 10 text r → r ≡ Err x → None ≡ number_in least most (Some text)
no_number least most text (Ok y) x small h e = cc e
no_number least most text (Err y) x small h e = by (is_numeral (without_leading_plus text) && (nat_le least (digits_value 10 (without_leading_plus text)) && nat_le (digits_value 10 (without_leading_plus text)) most)) refl
  where
    by : (b : Bool) → (is_numeral (without_leading_plus text) && (nat_le least (digits_value 10 (without_leading_plus text)) && nat_le (digits_value 10 (without_leading_plus text)) most)) ≡ b
        → None ≡ cond b (Some (digits_value 10 (without_leading_plus text))) None
    by true t =
        let p = halves _ _ t in
        let q = halves _ _ p.0 in
        let some : 0 < length (without_leading_plus text) = let l : nat_lt 0 (length (without_leading_plus text)) ≡ true = q.0 in grind (arith, nat_tests) in
        let within : digits_value 10 (without_leading_plus text) ≤ most =
        let l : nat_le (digits_value 10 (without_leading_plus text)) most ≡ true = (halves _ _ p.1).1 in grind (arith, nat_tests) in
        let fits : digits_value 10 (without_leading_plus text) < 2 ^ 64 = omega (arith, within, small) in
        absurd (h ((some, told _ q.1), fits))
    by false t = refl

-- between one and two
pub one_or_two : (n : ℕ) → 1 ≤ n → n ≤ 2 → (n ≡ 1) ⊎ (n ≡ 2)
one_or_two zero least most = absurd (omega (arith, least))
one_or_two (suc zero) least most = inl refl
one_or_two (suc (suc zero)) least most = inr refl
one_or_two (suc (suc (suc n))) least most = absurd (omega (arith, most))
