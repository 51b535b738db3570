-- Texts with their backslashes doubled, and bytes as digits, are read as what they were.
use Rattle.std.proofs.Common.{◌≡◌, ℕ, suc, ◌+◌, ◌-◌, ◌*◌, ◌/◌, ◌%◌, ◌<◌, Bool, true, false, cond, eqb, nat_lt, List, [], ◌∷◌, ◌++◌, length, drop, get_or, take, refl, sym, ap, subst, ◌∙◌, append_assoc, append-nil, arith, length-append}
use Rattle.std.specs.Str.{IsUtf8}
use Rattle.std.proofs.lemmas.Bool.{le-ltb, lt-ltb, ltb-false, ltb-true, ne_eqb}
use Rattle.std.proofs.lemmas.List.{drop_at, get_or_at, take_more}
use Rattle.std.proofs.lemmas.Str.{IsCharBoundary-after_ascii, IsUtf8-drop}
use Rattle.ba_lex.specs.Spelling.{doubled}
use Rattle.ba_send.specs.Texts.{HasNoSlash, digit_value, hex, hex_digit, slashed, unhex, unslashed}

-- ---- backslashes

pub unslashed_slashed : (t : List ℕ) → unslashed false (slashed t) ≡ t
unfolding slashed unslashed
unslashed_slashed [] = refl
unslashed_slashed (b ∷ bs) = by (eqb b 92) refl (unslashed_slashed bs)
  where
    by : (k : Bool) → eqb b 92 ≡ k → unslashed false (slashed bs) ≡ bs
        → unslashed false (cond k (92 ∷ 92 ∷ slashed bs) (b ∷ slashed bs)) ≡ b ∷ bs
    by true s more = let same : 92 ≡ b = grind arith in rw more (ap (λ (c : ℕ). c ∷ bs) same)
    by false s more = rw s (ap (λ (r : List ℕ). b ∷ r) more)

-- ---- digits

digit_back : (n : ℕ) → digit_value (hex_digit n) ≡ n
digit_back n = by (nat_lt n 10) refl
  where
    by : (k : Bool) → nat_lt n 10 ≡ k → digit_value (cond k (48 + n) (55 + n)) ≡ n
    by true s = rw (lt-ltb (48 + n) 58 (let small = ltb-true n 10 s in omega (arith, small))) (let e : 48 + n - 48 ≡ n = omega arith in e)
    by false s = rw (le-ltb (55 + n) 58 (let large = ltb-false n 10 s in omega (arith, large))) (let e : 55 + n - 55 ≡ n = omega arith in e)

pub unhex_hex : (t : List ℕ) → unhex (hex t) ≡ t
unfolding hex unhex
unhex_hex [] = refl
unhex_hex (b ∷ bs) =
    let whole : (b / 16) * 16 + b % 16 ≡ b = omega arith in
    rw (digit_back (b / 16), digit_back (b % 16), whole) (ap (λ (r : List ℕ). b ∷ r) (unhex_hex bs))

digit_no_quote : (n : ℕ) → eqb (hex_digit n) 39 ≡ false
digit_no_quote n = by (nat_lt n 10)
  where
    by : (k : Bool) → eqb (cond k (48 + n) (55 + n)) 39 ≡ false
    by true = ne_eqb (48 + n) 39 (λ e. absurd (omega (arith, e)))
    by false = ne_eqb (55 + n) 39 (λ e. absurd (omega (arith, e)))

pub doubled_hex : (t : List ℕ) → doubled (hex t) ≡ hex t
unfolding hex
doubled_hex [] = refl
doubled_hex (b ∷ bs) = rw (digit_no_quote (b / 16), digit_no_quote (b % 16))
    (ap (λ (r : List ℕ). hex_digit (b / 16) ∷ hex_digit (b % 16) ∷ r) (doubled_hex bs))

-- ---- doubling goes piece by piece

pub doubled_append : (xs ys : List ℕ) → doubled (xs ++ ys) ≡ doubled xs ++ doubled ys
doubled_append [] ys = refl
doubled_append (b ∷ bs) ys = by (eqb b 39) (doubled_append bs ys)
  where
    by : (k : Bool) → doubled (bs ++ ys) ≡ doubled bs ++ doubled ys
        → cond k (39 ∷ 39 ∷ doubled (bs ++ ys)) (b ∷ doubled (bs ++ ys)) ≡ cond k (39 ∷ 39 ∷ doubled bs) (b ∷ doubled bs) ++ doubled ys
    by true more = ap (λ (r : List ℕ). 39 ∷ 39 ∷ r) more
    by false more = ap (λ (r : List ℕ). b ∷ r) more

no_slash_behind : (b : ℕ) (bs : List ℕ) → HasNoSlash (b ∷ bs) → HasNoSlash bs
no_slash_behind b bs h k lt = h (suc k) (omega arith)

slashed_front : (xs ys : List ℕ) → HasNoSlash xs → slashed (xs ++ 92 ∷ ys) ≡ xs ++ 92 ∷ 92 ∷ slashed ys
unfolding slashed
slashed_front [] ys h = refl
slashed_front (b ∷ bs) ys h = rw (ne_eqb b 92 (h 0 (omega arith))) (ap (λ (r : List ℕ). b ∷ r) (slashed_front bs ys (no_slash_behind b bs h)))

slashed_none : (xs : List ℕ) → HasNoSlash xs → slashed xs ≡ xs
unfolding slashed
slashed_none [] h = refl
slashed_none (b ∷ bs) h = rw (ne_eqb b 92 (h 0 (omega arith))) (ap (λ (r : List ℕ). b ∷ r) (slashed_none bs (no_slash_behind b bs h)))

-- ---- one more stretch of a text, up to a backslash

pub slash_more : (start found middle found2 before after rest text : List ℕ) → middle ≡ found ++ doubled before → found2 ≡ middle ++ 92 ∷ 92 ∷ []
    → HasNoSlash before → rest ≡ before ++ 92 ∷ after
    → found ++ doubled (slashed rest) ≡ start ++ doubled (slashed text) → found2 ++ doubled (slashed after) ≡ start ++ doubled (slashed text)
slash_more start found middle found2 before after rest text m f none split so_far =
    let stretch : doubled (slashed rest) ≡ doubled before ++ 92 ∷ 92 ∷ doubled (slashed after) =
    ap (λ (u : List ℕ). doubled (slashed u)) split ∙ ap doubled (slashed_front before after none) ∙ doubled_append before (92 ∷ 92 ∷ slashed after) in
    ap (λ (u : List ℕ). u ++ doubled (slashed after)) (f ∙ ap (λ (u : List ℕ). u ++ 92 ∷ 92 ∷ []) m)
    ∙ append_assoc (found ++ doubled before) (92 ∷ 92 ∷ []) (doubled (slashed after))
    ∙ append_assoc found (doubled before) (92 ∷ 92 ∷ doubled (slashed after))
    ∙ ap (λ (u : List ℕ). found ++ u) (sym stretch) ∙ so_far

pub slash_end : (start found found2 rest text : List ℕ) → found2 ≡ found ++ doubled rest → HasNoSlash rest
    → found ++ doubled (slashed rest) ≡ start ++ doubled (slashed text) → found2 ≡ start ++ doubled (slashed text)
slash_end start found found2 rest text f none so_far =
    f ∙ ap (λ (u : List ℕ). found ++ doubled u) (sym (slashed_none rest none)) ∙ so_far

pub behind_byte : (b : ℕ) (before after rest : List ℕ) → b < 128 → IsUtf8 rest → rest ≡ before ++ b ∷ after → IsUtf8 after
behind_byte b before after rest ascii u e =
    let first : get_or rest (length before) 0 ≡ b = ap (λ (r : List ℕ). get_or r (length before) 0) e ∙ get_or_at before b after 0 (length before) refl in
    let size : length rest ≡ length before + suc (length after) = ap length e ∙ length-append before (b ∷ after) in
    let front : length (before ++ b ∷ []) ≡ length before + 1 = length-append before (b ∷ []) in
    let tail : drop (length before + 1) rest ≡ after =
    ap (drop (length before + 1)) (e ∙ sym (append_assoc before (b ∷ []) after)) ∙ drop_at (before ++ b ∷ []) after (length before + 1) front in
    subst IsUtf8 tail (IsUtf8-drop rest (length before + 1) u (IsCharBoundary-after_ascii rest (length before) u (omega (arith, size)) (omega (arith, first, ascii))))

-- ---- one more byte as digits

hex_append : (xs ys : List ℕ) → hex (xs ++ ys) ≡ hex xs ++ hex ys
unfolding hex
hex_append [] ys = refl
hex_append (b ∷ bs) ys = ap (λ (r : List ℕ). hex_digit (b / 16) ∷ hex_digit (b % 16) ∷ r) (hex_append bs ys)

pub digit_small : (n : ℕ) → n < 16 → hex_digit n < 128
digit_small n lt = by (nat_lt n 10)
  where
    by : (k : Bool) → cond k (48 + n) (55 + n) < 128
    by true = omega (arith, lt)
    by false = omega (arith, lt)

pub hex_none : (start : List ℕ) → start ≡ start ++ hex []
unfolding hex
hex_none start = sym (append-nil start)

pub hex_more : (bytes : List ℕ) (i other : ℕ) (start before middle after : List ℕ) → i < length bytes → before ≡ start ++ hex (take i bytes)
    → middle ≡ before ++ hex_digit (get_or bytes i other / 16) ∷ [] → after ≡ middle ++ hex_digit (get_or bytes i other % 16) ∷ []
    → after ≡ start ++ hex (take (i + 1) bytes)
unfolding hex
hex_more bytes i other start before middle after lt so_far m a =
    let b : ℕ = get_or bytes i other in
    a ∙ ap (λ (t : List ℕ). t ++ hex_digit (b % 16) ∷ []) (m ∙ ap (λ (t : List ℕ). t ++ hex_digit (b / 16) ∷ []) so_far)
    ∙ append_assoc (start ++ hex (take i bytes)) (hex_digit (b / 16) ∷ []) (hex_digit (b % 16) ∷ [])
    ∙ append_assoc start (hex (take i bytes)) (hex_digit (b / 16) ∷ hex_digit (b % 16) ∷ [])
    ∙ ap (λ (t : List ℕ). start ++ t) (sym (ap hex (take_more bytes i other lt) ∙ hex_append (take i bytes) (b ∷ [])))

-- a digit as a character
pub digit_pushed : (before after : List ℕ) (ch n : ℕ) (encoded : List ℕ) → n < 16 → ch ≡ hex_digit n → after ≡ before ++ encoded
    → (ch < 128 → encoded ≡ ch ∷ []) → after ≡ before ++ hex_digit n ∷ []
digit_pushed before after ch n encoded lt e a ascii =
    let small = digit_small n lt in
    a ∙ ap (λ (t : List ℕ). before ++ t) (ascii (omega (arith, small, e)) ∙ ap (λ (k : ℕ). k ∷ []) e)
