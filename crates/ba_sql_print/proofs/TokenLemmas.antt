-- A token that stands at the front is what is found there, where the byte behind it ends it.
use Rattle.std.proofs.Common.{◌≡◌, ◌≢◌, ℕ, suc, ◌+◌, ℤ, pos, neg_ℤ, Bool, true, false, not, ◌||◌, eqb, List, [], ◌∷◌, ◌++◌, length, Some, ◌⊎◌, inl, inr, refl, sym, ap, subst, ◌∙◌, arith, length-append, add-one}
use Rattle.std.specs.List.{list_all, prefix_len}
use Rattle.std.proofs.Math.Numerals.{one-add}
use Rattle.std.proofs.lemmas.Bool.{and_parts, ne_eqb}
use Rattle.std.proofs.lemmas.Bool.Decides.{nat_tests}
use Rattle.std.proofs.lemmas.List.{take_at}
use Rattle.ba_lex.specs.Spelling.{SpellsNumber, are_digits, are_name_bytes, are_word_bytes, digits_value, doubled, is_blank, is_digit, is_letter, is_name_byte, is_word_byte}
use Rattle.ba_lex.specs.Tokens.{dash, front, name_of_len, param, text_len}
use Rattle.ba_lex.specs.declared.front.Piece.{Piece}
use Rattle.ba_lex.specs.declared.front.Piece.TheVariants.{Gap, Found}
use Rattle.ba_lex.specs.declared.front.Shape.{Shape}
use Rattle.ba_lex.specs.declared.front.Shape.TheVariants as shapes
use Rattle.ba_lex.specs.declared.token.Sign.TheVariants.{Comma, Dot, Equal, NotEqual, Less, LessEqual}

-- a space, a comma or a dot
abbrev pub is_break : ℕ → Bool
is_break b = eqb b 32 || eqb b 44 || eqb b 46

-- the text's end, or a byte that ends a token
abbrev pub Breaks : List ℕ → Type 0
Breaks [] = Unit {0}
Breaks (b ∷ bs) = is_break b ≡ true

-- the run of bytes that pass ends here
abbrev Stops : (ℕ → Bool) → List ℕ → Type 0
Stops p [] = Unit {0}
Stops p (b ∷ bs) = p b ≡ false

run_stops : (p : ℕ → Bool) (xs rest : List ℕ) → list_all p xs ≡ true → Stops p rest → prefix_len p (xs ++ rest) ≡ length xs
run_stops p [] [] h stop = refl
run_stops p [] (c ∷ cs) h stop = rw stop refl
run_stops p (x ∷ xs) rest h stop =
    let q = and_parts (p x) (list_all p xs) h in
    rw q.0 (ap (λ (n : ℕ). 1 + n) (run_stops p xs rest q.1 stop) ∙ one-add (length xs))

break_word : (b : ℕ) → is_break b ≡ true → is_word_byte b ≡ false
break_word b h = grind (arith, nat_tests)

break_digit : (b : ℕ) → is_break b ≡ true → is_digit b ≡ false
break_digit b h = grind (arith, nat_tests)

break_quote : (b : ℕ) → is_break b ≡ true → eqb b 39 ≡ false
break_quote b h = grind (arith, nat_tests)

break_angle : (b : ℕ) → is_break b ≡ true → eqb b 62 ≡ false
break_angle b h = grind (arith, nat_tests)

break_equal : (b : ℕ) → is_break b ≡ true → eqb b 61 ≡ false
break_equal b h = grind (arith, nat_tests)

stops : (p : ℕ → Bool) → ((b : ℕ) → is_break b ≡ true → p b ≡ false) → (rest : List ℕ) → Breaks rest → Stops p rest
stops p each [] h = tt
stops p each (b ∷ bs) h = each b h

letter_blank : (b : ℕ) → is_letter b ≡ true → is_blank b ≡ false
letter_blank b h = grind (arith, nat_tests)

digit_blank : (b : ℕ) → is_digit b ≡ true → is_blank b ≡ false
digit_blank b h = grind (arith, nat_tests)

digit_letter : (b : ℕ) → is_digit b ≡ true → is_letter b ≡ false
digit_letter b h = grind (arith, nat_tests)

digit_dash : (b : ℕ) → is_digit b ≡ true → eqb b 45 ≡ false
digit_dash b h = grind (arith, nat_tests)

-- the bytes begin with a token of this shape and length
abbrev pub Finds : List ℕ → Piece → Type 0
Finds [] piece = ⊥
Finds (b ∷ bs) piece = front b bs ≡ piece

found_same : (shape : Shape) (n m : ℕ) → n ≡ m → Found shape n ≡ Found shape m
found_same shape n m e = ap (Found shape) e

pub word_found : (w rest : List ℕ) → are_word_bytes w ≡ true → Breaks rest → Finds (w ++ rest) (Found shapes.Word (length w))
unfolding front
word_found [] rest h ends = cc
word_found (b ∷ ws) rest h ends =
    let q = and_parts (is_letter b) (list_all is_word_byte ws) h in
    rw (letter_blank b q.0, q.0) (found_same shapes.Word _ _
    (ap (λ (n : ℕ). n + 1) (run_stops is_word_byte ws rest q.1 (stops is_word_byte break_word rest ends)) ∙ add-one (length ws)))

pub digits_found : (ds rest : List ℕ) → are_digits ds ≡ true → Breaks rest → Finds (ds ++ rest) (Found shapes.Number (length ds))
unfolding front
digits_found [] rest h ends = cc
digits_found (b ∷ ds) rest h ends =
    let q = and_parts (is_digit b) (list_all is_digit ds) h in
    rw (digit_blank b q.0, digit_letter b q.0, q.0)
    (found_same shapes.Number _ _ (ap (λ (n : ℕ). n + 1) (run_stops is_digit ds rest q.1 (stops is_digit break_digit rest ends)) ∙ add-one (length ds)))

plus_two : (n : ℕ) → n + 2 ≡ suc (suc n)
plus_two n = omega arith

dash_found : (ds rest : List ℕ) → are_digits ds ≡ true → Breaks rest → dash (ds ++ rest) ≡ Found shapes.Number (suc (length ds))
dash_found [] rest h ends = cc
dash_found (b ∷ ds) rest h ends =
    let q = and_parts (is_digit b) (list_all is_digit ds) h in
    rw (digit_dash b q.0, q.0)
    (found_same shapes.Number _ _ (ap (λ (n : ℕ). n + 2) (run_stops is_digit ds rest q.1 (stops is_digit break_digit rest ends)) ∙ plus_two (length ds)))

minus_found : (ds rest : List ℕ) → are_digits ds ≡ true → Breaks rest → front 45 (ds ++ rest) ≡ Found shapes.Number (suc (length ds))
unfolding front
minus_found ds rest h ends = dash_found ds rest h ends

pub number_found : (s rest : List ℕ) (n : ℤ) → SpellsNumber s n → Breaks rest → Finds (s ++ rest) (Found shapes.Number (length s))
number_found s rest n h ends = by h.sign
  where
    by : ((s ≡ h.digits) × (n ≡ pos (digits_value h.digits))) ⊎ ((s ≡ 45 ∷ h.digits) × (n ≡ neg_ℤ (pos (digits_value h.digits)))) → Finds (s ++ rest)
        (Found shapes.Number (length s))
    by (inl e) = subst (λ (t : List ℕ). Finds (t ++ rest) (Found shapes.Number (length t))) (sym e.0) (digits_found h.digits rest h.are ends)
    by (inr e) = subst (λ (t : List ℕ). Finds (t ++ rest) (Found shapes.Number (length t))) (sym e.0) (minus_found h.digits rest h.are ends)

param_after : (w rest : List ℕ) → are_word_bytes w ≡ true → Breaks rest → param (w ++ rest) ≡ Found shapes.Param (suc (length w))
param_after [] rest h ends = cc
param_after (b ∷ ws) rest h ends =
    let q = and_parts (is_letter b) (list_all is_word_byte ws) h in
    rw q.0 (found_same shapes.Param _ _ (ap (λ (n : ℕ). n + 2) (run_stops is_word_byte ws rest q.1 (stops is_word_byte break_word rest ends)) ∙ plus_two
    (length ws)))

pub param_found : (w rest : List ℕ) → are_word_bytes w ≡ true → Breaks rest → Finds (63 ∷ (w ++ rest)) (Found shapes.Param (suc (length w)))
unfolding front
param_found w rest h ends = param_after w rest h ends

-- behind its first quote
text_behind : (t rest : List ℕ) → Breaks rest → text_len false (doubled t ++ 39 ∷ rest) ≡ Some (length (doubled t) + 1)
unfolding text_len
text_behind [] [] ends = refl
text_behind [] (c ∷ cs) ends = rw (break_quote c ends) refl
text_behind (b ∷ t) rest ends = at (eqb b 39) refl (text_behind t rest ends)
  where
    at : (k : Bool) → eqb b 39 ≡ k → text_len false (doubled t ++ 39 ∷ rest) ≡ Some (length (doubled t) + 1) → text_len false
        (doubled (b ∷ t) ++ 39 ∷ rest) ≡ Some (length (doubled (b ∷ t)) + 1)
    at true s more = rw s (rw more (ap Some (let z : suc (suc (length (doubled t) + 1)) ≡ suc (suc (length (doubled t))) + 1 = omega arith in z)))
    at false s more = rw s (rw s (rw more (ap Some (let z : suc (length (doubled t) + 1) ≡ suc (length (doubled t)) + 1 = omega arith in z))))

pub text_found : (t rest : List ℕ) → Breaks rest → Finds (39 ∷ (doubled t ++ 39 ∷ rest)) (Found shapes.Text (length (doubled t) + 2))
unfolding front
text_found t rest ends = rw (text_behind t rest ends)
    (found_same shapes.Text _ _ (let z : (length (doubled t) + 1) + 1 ≡ length (doubled t) + 2 = omega arith in z))

name_byte_quote : (b : ℕ) → is_name_byte b ≡ true → not (eqb b 34) ≡ true
name_byte_quote b h = grind (arith, nat_tests)

all_weaker : (p r : ℕ → Bool) → ((b : ℕ) → p b ≡ true → r b ≡ true) → (xs : List ℕ) → list_all p xs ≡ true → list_all r xs ≡ true
all_weaker p r each [] h = refl
all_weaker p r each (b ∷ bs) h = let q = and_parts (p b) (list_all p bs) h in rw (each b q.0) (all_weaker p r each bs q.1)

name_bytes : (w : List ℕ) → are_name_bytes w ≡ true → list_all is_name_byte w ≡ true
name_bytes [] h = refl
name_bytes (b ∷ bs) h = h

name_len : (w rest : List ℕ) → are_name_bytes w ≡ true → prefix_len (λ b. not (eqb b 34)) (w ++ 34 ∷ rest) ≡ length w
name_len w rest h = run_stops (λ b. not (eqb b 34)) w (34 ∷ rest) (all_weaker is_name_byte (λ b. not (eqb b 34)) name_byte_quote w (name_bytes w h)) refl

name_is : (w rest : List ℕ) (n : ℕ) → are_name_bytes w ≡ true → n ≡ length w → name_of_len n (w ++ 34 ∷ rest) ≡ Found shapes.Quoted (n + 2)
name_is w rest n h e =
    let long : n ≢ length (w ++ 34 ∷ rest) = λ same. absurd (omega (arith, same, e, length-append w (34 ∷ rest))) in
    rw (ne_eqb n (length (w ++ 34 ∷ rest)) long, take_at w (34 ∷ rest) n (sym e), h) refl

pub name_found : (w rest : List ℕ) → are_name_bytes w ≡ true → Finds (34 ∷ (w ++ 34 ∷ rest)) (Found shapes.Quoted (length w + 2))
unfolding front
name_found w rest h = rw (name_len w rest h) (name_is w rest (length w) h refl)

-- `<` that neither `>` nor `=` follows
pub less_found : (rest : List ℕ) → Breaks rest → Finds (60 ∷ rest) (Found (shapes.Sign Less) 1)
unfolding front
less_found [] ends = refl
less_found (c ∷ cs) ends = rw (break_angle c ends, break_equal c ends) refl

pub less_equal_found : (rest : List ℕ) → Finds (60 ∷ 61 ∷ rest) (Found (shapes.Sign LessEqual) 2)
unfolding front
less_equal_found rest = refl

pub not_equal_found : (rest : List ℕ) → Finds (60 ∷ 62 ∷ rest) (Found (shapes.Sign NotEqual) 2)
unfolding front
not_equal_found rest = refl

pub equal_found : (rest : List ℕ) → Finds (61 ∷ rest) (Found (shapes.Sign Equal) 1)
unfolding front
equal_found [] = refl
equal_found (c ∷ cs) = refl

pub comma_found : (rest : List ℕ) → Finds (44 ∷ rest) (Found (shapes.Sign Comma) 1)
unfolding front
comma_found [] = refl
comma_found (c ∷ cs) = refl

pub dot_found : (rest : List ℕ) → Finds (46 ∷ rest) (Found (shapes.Sign Dot) 1)
unfolding front
dot_found [] = refl
dot_found (c ∷ cs) = refl

pub blank_found : (rest : List ℕ) → front 32 rest ≡ Gap 1
unfolding front
blank_found rest = refl
