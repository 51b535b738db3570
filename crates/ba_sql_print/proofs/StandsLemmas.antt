-- The tokens of a printed query.
use Rattle.std.proofs.Common.{◌≡◌, ℕ, suc, ◌+◌, ◌<◌, ◌^◌, ℤ, pos, negsuc, true, List, [], ◌∷◌, ◌++◌, length, inl, inr, refl, sym, ap, subst, arith, rules, append_assoc, length-append}
use Rattle.std.specs.Fmt.{decimal, signed_decimal}
use Rattle.std.specs.List.{list_all}
use Rattle.std.proofs.lemmas.Bool.{and_parts, ltb-true}
use Rattle.std.proofs.lemmas.Bool.Decides.{nat_tests}
use Rattle.std.proofs.lemmas.Fmt.{decimal_nonempty, digits_decimal, digits_value-decimal}
use Rattle.std.proofs.lemmas.Str.Parse.{IsNumeralModel, numerals_by_fold}
use Rattle.ba_lex.specs.Spelling.{SpellsNumber, are_digits, are_name_bytes, are_word_bytes, doubled, fits, is_digit, is_word_byte, value_after}
use Rattle.ba_lex.specs.declared.front.Piece.TheVariants.{Found}
use Rattle.ba_lex.specs.declared.front.Shape.{Shape}
use Rattle.ba_lex.specs.declared.front.Shape.TheVariants as shapes
use Rattle.ba_lex.specs.declared.token.Lexeme.TheVariants as lexemes
use Rattle.ba_lex.specs.declared.token.Sign.TheVariants.{Equal, NotEqual, Less, LessEqual}
use Rattle.ba_sql_print.specs.Printed.{quoted, source_name}
use Rattle.ba_sql_print.proofs.SpellsLemmas.{Stands}
use Rattle.ba_sql_print.proofs.TokenLemmas.{Finds, equal_found, less_equal_found, less_found, name_found, not_equal_found, number_found, param_found, text_found, word_found}

pub word_stands : (w : List ℕ) → are_word_bytes w ≡ true → Stands w (lexemes.Word w)
word_stands w h = record { spelled = (h, refl); in_range = refl; found = λ rest ends. word_found w rest h ends }

pub param_stands : (w : List ℕ) → are_word_bytes w ≡ true → Stands (63 ∷ w) (lexemes.Param w)
param_stands w h = record { spelled = (h, refl); in_range = refl; found = λ rest ends. param_found w rest h ends }

-- what is found with a byte at each end
enclosed : (q : ℕ) (w rest : List ℕ) (shape : Shape) → Finds (q ∷ (w ++ q ∷ rest)) (Found shape (length w + 2))
    → Finds ((q ∷ (w ++ q ∷ [])) ++ rest) (Found shape (length (q ∷ (w ++ q ∷ []))))
enclosed q w rest shape h =
    let size : length w + 2 ≡ length (q ∷ (w ++ q ∷ [])) = omega (arith, length-append w (q ∷ [])) in
    subst (λ (n : ℕ). Finds ((q ∷ (w ++ q ∷ [])) ++ rest) (Found shape n)) size
    (subst (λ (bs : List ℕ). Finds (q ∷ bs) (Found shape (length w + 2))) (sym (append_assoc w (q ∷ []) rest)) h)

pub quoted_stands : (w : List ℕ) → are_name_bytes w ≡ true → Stands (quoted w) (lexemes.Quoted w)
quoted_stands w h =
    record {
      spelled = record { quote = 34; is_quote = refl; are = h; all = refl };
      in_range = refl;
      found = λ rest ends. enclosed 34 w rest shapes.Quoted (name_found w rest h);
    }

pub text_stands : (t : List ℕ) → Stands (39 ∷ (doubled t ++ 39 ∷ [])) (lexemes.Text t)
text_stands t = record { spelled = refl; in_range = refl; found = λ rest ends. enclosed 39 (doubled t) rest shapes.Text (text_found t rest ends) }

own : IsNumeralModel (λ ds. list_all is_digit ds ≡ true) (value_after 0)
own = numerals_by_fold _ (search rules) value_after (search rules)

some_digits : (ds : List ℕ) → 0 < length ds → list_all is_digit ds ≡ true → are_digits ds ≡ true
some_digits [] some h = absurd (omega (arith, some))
some_digits (d ∷ ds) some h = h

pub decimal_digits : (n : ℕ) → n < 2 ^ 64 → are_digits (decimal n) ≡ true
decimal_digits n h = some_digits (decimal n) (decimal_nonempty n h) (digits_decimal own n h)

spells_number : (n : ℤ) → fits n ≡ true → SpellsNumber (signed_decimal n) n
spells_number (pos n) h =
    let small : n < 2 ^ 64 = omega (arith, ltb-true n (2 ^ 63) h) in
    record { digits = decimal n; are = decimal_digits n small; sign = inl (refl, ap pos (sym (digits_value-decimal own n small))) }
spells_number (negsuc n) h =
    let small : suc n < 2 ^ 64 = omega (arith, ltb-true n (2 ^ 63) h) in
    record { digits = decimal (suc n); are = decimal_digits (suc n) small; sign = inr (refl, rw (digits_value-decimal own (suc n) small) refl) }

pub number_stands : (n : ℤ) → fits n ≡ true → Stands (signed_decimal n) (lexemes.Number n)
number_stands n h = record { spelled = spells_number n h; in_range = h; found = λ rest ends. number_found (signed_decimal n) rest n (spells_number n h) ends }

digit_word : (b : ℕ) → is_digit b ≡ true → is_word_byte b ≡ true
digit_word b h = grind (arith, nat_tests)

digits_word : (ds : List ℕ) → list_all is_digit ds ≡ true → list_all is_word_byte ds ≡ true
digits_word [] h = refl
digits_word (d ∷ ds) h = let q = and_parts (is_digit d) (list_all is_digit ds) h in rw (digit_word d q.0) (digits_word ds q.1)

pub source_name_word : (place : ℕ) → place < 2 ^ 64 → are_word_bytes (source_name place) ≡ true
source_name_word place h = digits_word (decimal place) (digits_decimal own place h)

pub source_stands : (place : ℕ) → place < 2 ^ 64 → Stands (source_name place) (lexemes.Word (source_name place))
source_stands place h = word_stands (source_name place) (source_name_word place h)

pub equal_stands : Stands (61 ∷ []) (lexemes.Sign Equal)
equal_stands = record { spelled = refl; in_range = refl; found = λ rest ends. equal_found rest }

pub not_equal_stands : Stands (60 ∷ 62 ∷ []) (lexemes.Sign NotEqual)
not_equal_stands = record { spelled = refl; in_range = refl; found = λ rest ends. not_equal_found rest }

pub less_stands : Stands (60 ∷ []) (lexemes.Sign Less)
less_stands = record { spelled = refl; in_range = refl; found = λ rest ends. less_found rest ends }

pub less_equal_stands : Stands (60 ∷ 61 ∷ []) (lexemes.Sign LessEqual)
less_equal_stands = record { spelled = refl; in_range = refl; found = λ rest ends. less_equal_found rest }
