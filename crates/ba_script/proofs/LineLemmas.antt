-- The first line of a script and what follows it.
use Rattle.std.proofs.Common.{◌≡◌, ◌∙◌, ℕ, ◌+◌, ◌-◌, ◌<◌, ◌≤◌, ◌==◌, Bool, true, false, not, cond, nat_lt, List, [], ◌∷◌, length, take, drop, Option, Some, None, refl, ap, arith}
use Rattle.std.specs.List.{slice_split, onto_first, position, position_or_len}
use Rattle.std.specs.Str.Lines.{lines_of_parts, strip_carriage_return}
use Rattle.std.proofs.lemmas.Bool.{ltb-true, ltb-false}
use Rattle.std.proofs.Math.Dec.{eqb-suc-zero}
use Rattle.std.proofs.lemmas.List.{take_all, length-drop}
use Rattle.std.proofs.lemmas.List.Splits.{slice_split_first, length-slice_split}
use Rattle.ba_script.specs.Lines.{script_lines}

-- a part before a line feed is a line
onward : (x : List ℕ) (parts : List (List ℕ)) → 0 < length parts → lines_of_parts (x ∷ parts) ≡ strip_carriage_return x ∷ lines_of_parts parts
onward x [] h = absurd (omega arith)
onward x (y ∷ more) h = refl

found_at : (b : Bool) (first n : ℕ) → cond b (Some first) None ≡ Some n → (b ≡ true) × (first ≡ n)
found_at true first n e = (refl, cc e)
found_at false first n e = cc e

not_found : (b : Bool) (first : ℕ) → ◌≡◌ {A = Option ℕ} (cond b (Some first) None) None → b ≡ false
not_found true first e = cc e
not_found false first e = refl

pub ended_line : (bs : List ℕ) (n : ℕ) → position (λ b. b == 10) bs ≡ Some n → script_lines bs ≡ strip_carriage_return (take n bs) ∷ script_lines (drop (n + 1) bs)
ended_line bs n e =
    let found = found_at (nat_lt (position_or_len (λ b. b == 10) bs) (length bs)) (position_or_len (λ b. b == 10) bs) n e in
    let within : position_or_len (λ b. b == 10) bs < length bs = ltb-true _ _ found.0 in
    let parts : slice_split (λ b. b == 10) bs ≡ take n bs ∷ slice_split (λ b. b == 10) (drop (n + 1) bs) =
    slice_split_first (λ b. b == 10) bs 0 within ∙ ap (λ (i : ℕ). take i bs ∷ slice_split (λ b. b == 10) (drop (i + 1) bs)) found.1 in
    let more : 0 < length (slice_split (λ b. b == 10) (drop (n + 1) bs)) = omega (arith, length-slice_split (λ b. b == 10) (drop (n + 1) bs)) in
    ap lines_of_parts parts ∙ onward (take n bs) (slice_split (λ b. b == 10) (drop (n + 1) bs)) more

whole_step : (p : ℕ → Bool) (x : ℕ) (xs : List ℕ) (b : Bool) → length (x ∷ xs) ≤ cond (not b) (1 + position_or_len p xs) 0
    → (length xs ≤ position_or_len p xs → slice_split p xs ≡ xs ∷ []) → cond b ([] ∷ slice_split p xs) (onto_first x (slice_split p xs)) ≡ (x ∷ xs) ∷ []
whole_step p x xs true short rest = absurd (omega arith)
whole_step p x xs false short rest = ap (onto_first x) (rest (omega arith))

-- where no element passes there is one part
whole : (p : ℕ → Bool) (xs : List ℕ) → length xs ≤ position_or_len p xs → slice_split p xs ≡ xs ∷ []
whole p [] short = refl
whole p (x ∷ xs) short = whole_step p x xs (p x) short (whole p xs)

alone : (x : List ℕ) → 0 < length x → lines_of_parts (x ∷ []) ≡ x ∷ []
alone [] some = absurd (omega arith)
alone (b ∷ bs) some = ap (λ (empty : Bool). cond empty [] ((b ∷ bs) ∷ [])) (eqb-suc-zero (length bs))

pub last_line : (bs : List ℕ) → 0 < length bs → position (λ b. b == 10) bs ≡ None → script_lines bs ≡ bs ∷ []
last_line bs some e =
    let short : length bs ≤ position_or_len (λ b. b == 10) bs = ltb-false _ _ (not_found (nat_lt (position_or_len (λ b. b == 10) bs) (length bs)) (position_or_len (λ b. b == 10) bs) e) in
    ap lines_of_parts (whole (λ b. b == 10) bs short) ∙ alone bs some

one_more : (x : ℕ) (parts : List (List ℕ)) → length (lines_of_parts (onto_first x parts)) ≤ 1 + length (lines_of_parts parts)
one_more x [] = omega (arith, ap length (alone (x ∷ []) (omega arith)))
one_more x (part ∷ []) = omega (arith, ap length (alone (x ∷ part) (omega arith)))
one_more x (part ∷ next ∷ more) = omega arith

bound_step : (p : ℕ → Bool) (x : ℕ) (xs : List ℕ) (b : Bool) → length (lines_of_parts (slice_split p xs)) ≤ length xs
    → length (lines_of_parts (cond b ([] ∷ slice_split p xs) (onto_first x (slice_split p xs)))) ≤ length (x ∷ xs)
bound_step p x xs true rest =
    let more : 0 < length (slice_split p xs) = omega (arith, length-slice_split p xs) in
    omega (arith, ap length (onward [] (slice_split p xs) more))
bound_step p x xs false rest = omega (arith, one_more x (slice_split p xs))

bound : (p : ℕ → Bool) (xs : List ℕ) → length (lines_of_parts (slice_split p xs)) ≤ length xs
bound p [] = omega arith
bound p (x ∷ xs) = bound_step p x xs (p x) (bound p xs)

-- each line has a byte or a line feed of its own
pub lines_bound : (bs : List ℕ) → length (script_lines bs) ≤ length bs
lines_bound bs = bound (λ b. b == 10) bs

-- what a slice from n on has
pub from_on : (bs : List ℕ) (n : ℕ) → take (length bs - n) (drop n bs) ≡ drop n bs
from_on bs n = take_all (length bs - n) (drop n bs) (omega (arith, length-drop n bs))
