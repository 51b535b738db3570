-- The tokens that a sent text has and a printed query hasn't: brackets, names in backquotes, and the
-- words that stand directly before a text.
use Rattle.std.proofs.Common.{◌≡◌, ◌≢◌, ℕ, ◌+◌, true, not, eqb, List, [], ◌∷◌, ◌++◌, length, refl, sym, ap, subst, ◌∙◌, arith, append_assoc, length-append}
use Rattle.std.specs.List.{list_all, prefix_len}
use Rattle.std.proofs.Math.Numerals.{one-add}
use Rattle.std.proofs.lemmas.Bool.{and_parts, ne_eqb}
use Rattle.std.proofs.lemmas.Bool.Decides.{nat_tests}
use Rattle.std.proofs.lemmas.List.{take_at}
use Rattle.ba_lex.specs.Spelling.{are_name_bytes, is_name_byte}
use Rattle.ba_lex.specs.Tokens.{front, name_of_len}
use Rattle.ba_lex.specs.declared.front.Piece.TheVariants.{Found}
use Rattle.ba_lex.specs.declared.front.Shape.TheVariants as shapes
use Rattle.ba_lex.specs.declared.token.Lexeme.TheVariants as lexemes
use Rattle.ba_lex.specs.declared.token.Sign.TheVariants.{LeftParen, RightParen}
use Rattle.ba_sql_print.proofs.SpellsLemmas.{Stands}
use Rattle.ba_sql_print.proofs.StandsLemmas.{quoted_stands}
use Rattle.ba_sql_print.proofs.TokenLemmas.{Finds}
use Rattle.ba_target.specs.declared.target.Database.{Database}
use Rattle.ba_target.specs.declared.target.Database.TheVariants.{PostgreSql, Sqlite, MySql}
use Rattle.ba_send.specs.Sent.{lexeme_text}

-- ---- brackets

left_found : (rest : List ℕ) → Finds (40 ∷ rest) (Found (shapes.Sign LeftParen) 1)
unfolding front
left_found [] = refl
left_found (c ∷ cs) = refl

right_found : (rest : List ℕ) → Finds (41 ∷ rest) (Found (shapes.Sign RightParen) 1)
unfolding front
right_found [] = refl
right_found (c ∷ cs) = refl

pub left_stands : Stands (40 ∷ []) (lexemes.Sign LeftParen)
left_stands = record { spelled = refl; in_range = refl; found = λ rest ends. left_found rest }

pub right_stands : Stands (41 ∷ []) (lexemes.Sign RightParen)
right_stands = record { spelled = refl; in_range = refl; found = λ rest ends. right_found rest }

-- ---- a letter directly before a text

pub letter_e_found : (rest : List ℕ) → Finds (69 ∷ 39 ∷ rest) (Found shapes.Word 1)
unfolding front
letter_e_found rest = refl

pub letter_x_found : (rest : List ℕ) → Finds (88 ∷ 39 ∷ rest) (Found shapes.Word 1)
unfolding front
letter_x_found rest = refl

-- ---- names in backquotes

run_to_quote : (xs rest : List ℕ) → list_all (λ b. not (eqb b 96)) xs ≡ true → prefix_len (λ b. not (eqb b 96)) (xs ++ 96 ∷ rest) ≡ length xs
run_to_quote [] rest h = refl
run_to_quote (x ∷ xs) rest h =
    let q = and_parts (not (eqb x 96)) (list_all (λ b. not (eqb b 96)) xs) h in
    rw q.0 (ap (λ (n : ℕ). 1 + n) (run_to_quote xs rest q.1) ∙ one-add (length xs))

name_byte_quote : (b : ℕ) → is_name_byte b ≡ true → not (eqb b 96) ≡ true
name_byte_quote b h = grind (arith, nat_tests)

no_quotes : (xs : List ℕ) → list_all is_name_byte xs ≡ true → list_all (λ b. not (eqb b 96)) xs ≡ true
no_quotes [] h = refl
no_quotes (b ∷ bs) h = let q = and_parts (is_name_byte b) (list_all is_name_byte bs) h in rw (name_byte_quote b q.0) (no_quotes bs q.1)

name_bytes : (w : List ℕ) → are_name_bytes w ≡ true → list_all is_name_byte w ≡ true
name_bytes [] h = refl
name_bytes (b ∷ bs) h = h

name_is : (w rest : List ℕ) (n : ℕ) → are_name_bytes w ≡ true → n ≡ length w → name_of_len n (w ++ 96 ∷ rest) ≡ Found shapes.Quoted (n + 2)
name_is w rest n h e =
    let long : n ≢ length (w ++ 96 ∷ rest) = λ same. absurd (omega (arith, same, e, length-append w (96 ∷ rest))) in
    rw (ne_eqb n (length (w ++ 96 ∷ rest)) long, take_at w (96 ∷ rest) n (sym e), h) refl

name_found : (w rest : List ℕ) → are_name_bytes w ≡ true → Finds (96 ∷ (w ++ 96 ∷ rest)) (Found shapes.Quoted (length w + 2))
unfolding front
name_found w rest h = rw (run_to_quote w rest (no_quotes w (name_bytes w h))) (name_is w rest (length w) h refl)

enclosed : (w rest : List ℕ) → Finds (96 ∷ (w ++ 96 ∷ rest)) (Found shapes.Quoted (length w + 2))
    → Finds ((96 ∷ (w ++ 96 ∷ [])) ++ rest) (Found shapes.Quoted (length (96 ∷ (w ++ 96 ∷ []))))
enclosed w rest h =
    let size : length w + 2 ≡ length (96 ∷ (w ++ 96 ∷ [])) = omega (arith, length-append w (96 ∷ [])) in
    subst (λ (n : ℕ). Finds ((96 ∷ (w ++ 96 ∷ [])) ++ rest) (Found shapes.Quoted n)) size
    (subst (λ (bs : List ℕ). Finds (96 ∷ bs) (Found shapes.Quoted (length w + 2))) (sym (append_assoc w (96 ∷ []) rest)) h)

back_stands : (w : List ℕ) → are_name_bytes w ≡ true → Stands (96 ∷ (w ++ 96 ∷ [])) (lexemes.Quoted w)
back_stands w h =
    record {
      spelled = record { quote = 96; is_quote = refl; are = h; all = refl };
      in_range = refl;
      found = λ rest ends. enclosed w rest (name_found w rest h);
    }

-- in the quotes of the database
pub name_stands : (d : Database) (w : List ℕ) → are_name_bytes w ≡ true → Stands (lexeme_text d (lexemes.Quoted w)) (lexemes.Quoted w)
name_stands PostgreSql w h = quoted_stands w h
name_stands Sqlite w h = quoted_stands w h
name_stands MySql w h = back_stands w h
