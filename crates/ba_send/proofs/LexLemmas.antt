-- A text has its words, and then those of what stands behind it.
use Rattle.std.proofs.Common.{◌≡◌, ℕ, ◌+◌, ◌-◌, Bool, true, cond, List, [], ◌∷◌, ◌++◌, length, take, drop, Ok, Err, refl, sym, ap, subst, ◌∙◌, arith, append_assoc, length-append}
use Rattle.std.proofs.lemmas.List.{drop_at, take_at}
use Rattle.ba_lex.specs.Spelling.{IsToken, is_in_range}
use Rattle.ba_lex.specs.Tokens.{front, lexeme_of, shape_of, token, tokens_from, with_front}
use Rattle.ba_lex.specs.declared.front.Piece.{Piece}
use Rattle.ba_lex.specs.declared.front.Piece.TheVariants.{Found}
use Rattle.ba_lex.specs.declared.front.Shape.{Shape}
use Rattle.ba_lex.specs.declared.token.LexFault.TheVariants.{NumberTooLarge}
use Rattle.ba_lex.specs.declared.token.Lexeme.{Lexeme}
use Rattle.ba_lex.specs.declared.token.Lexeme.TheVariants as lexemes
use Rattle.ba_lex.specs.declared.token.Sign.TheVariants.{Dot}
use Rattle.ba_lex.specs.declared.token.Token.{Token}
use Rattle.ba_lex.proofs.DecodeLemmas.{lexeme_of-token}
use Rattle.ba_lex.proofs.LoopLemmas.{skip}
use Rattle.ba_lex.proofs.ShapeLemmas.{token_edges}
use Rattle.ba_sql_print.proofs.SpellsLemmas.{Lexed, Stands}
use Rattle.ba_sql_print.proofs.TokenLemmas.{Breaks, Finds, blank_found, dot_found}

-- ---- one token

found_read : (b : ℕ) (bs : List ℕ) (at n : ℕ) (shape : Shape) (x : Lexeme) (ts : List Token) → front b bs ≡ Found shape n
    → lexeme_of shape (take n (b ∷ bs)) ≡ Ok x
    → tokens_from bs (n - 1) (at + 1) ≡ Ok ts → tokens_from (b ∷ bs) 0 at ≡ Ok (token x at (at + n) ∷ ts)
unfolding tokens_from
found_read b bs at n shape x ts is says more = rw (is, says, more) refl

said : (s : List ℕ) (x : Lexeme) → IsToken s x → is_in_range x ≡ true → lexeme_of (shape_of x) s ≡ Ok x
said s x h range = lexeme_of-token s x h ∙ ap (λ (t : Bool). cond t (Ok x) (Err NumberTooLarge)) range

pub token_lexed : (s rest : List ℕ) (x : Lexeme) (at : ℕ) (xs : List Lexeme) → IsToken s x → is_in_range x ≡ true
    → Finds (s ++ rest) (Found (shape_of x) (length s)) → Lexed rest (at + length s) xs → Lexed (s ++ rest) at (x ∷ xs)
token_lexed [] rest x at xs spelled range found h = absurd (omega (arith, (token_edges [] x spelled).some))
token_lexed (b ∷ s) rest x at xs spelled range found h =
    let n : ℕ = length (b ∷ s) in
    let taken : take n (b ∷ (s ++ rest)) ≡ b ∷ s = take_at (b ∷ s) rest n refl in
    let says : lexeme_of (shape_of x) (take n (b ∷ (s ++ rest))) ≡ Ok x = ap (lexeme_of (shape_of x)) taken ∙ said (b ∷ s) x spelled range in
    let size : n - 1 ≡ length s = omega arith in
    let place : (at + 1) + (n - 1) ≡ at + n = omega arith in
    let dropped : drop (n - 1) (s ++ rest) ≡ rest = drop_at s rest (n - 1) (sym size) in
    let more : tokens_from (s ++ rest) (n - 1) (at + 1) ≡ Ok h.tokens =
    skip (s ++ rest) (n - 1) (at + 1) ∙ ap (λ (r : List ℕ). tokens_from r 0 ((at + 1) + (n - 1))) dropped ∙ ap (tokens_from rest 0) place ∙ h.read in
    record {
      tokens = token x at (at + n) ∷ h.tokens;
      read = found_read b (s ++ rest) at n (shape_of x) x h.tokens found says more;
      say = ap (λ (ys : List Lexeme). x ∷ ys) h.say;
    }

blank_lexed : (bs : List ℕ) (at : ℕ) (xs : List Lexeme) → Lexed bs (at + 1) xs → Lexed (32 ∷ bs) at xs
unfolding tokens_from
blank_lexed bs at xs h = record { tokens = h.tokens; read = ap (λ (p : Piece). with_front p (32 ∷ bs) at (tokens_from bs)) (blank_found bs) ∙ h.read; say = h.say }

pub lexed_nothing : (at : ℕ) → Lexed [] at []
unfolding tokens_from
lexed_nothing at = record { tokens = []; read = refl; say = refl }

-- ---- texts

-- before each text that breaks it
pub record Says (bs : List ℕ) (xs : List Lexeme) : Type 0 where
  pub says : (rest : List ℕ) (at : ℕ) (ys : List Lexeme) → Breaks rest → Lexed rest (at + length bs) ys → Lexed (bs ++ rest) at (xs ++ ys)

pub says_nothing : Says [] []
says_nothing = record { says = λ rest at ys ends h. let z : at + 0 ≡ at = omega arith in subst (λ (n : ℕ). Lexed rest n ys) z h }

pub says_token : (s : List ℕ) (x : Lexeme) → Stands s x → Says s (x ∷ [])
says_token s x stands = record { says = λ rest at ys ends h. token_lexed s rest x at ys stands.spelled stands.in_range (stands.found rest ends) h }

moved : (rest : List ℕ) (at n m k : ℕ) (ys : List Lexeme) → m ≡ n + k → Lexed rest (at + m) ys → Lexed rest ((at + n) + k) ys
moved rest at n m k ys e h = let z : at + m ≡ (at + n) + k = omega (arith, e) in subst (λ (p : ℕ). Lexed rest p ys) z h

pub says_blank : (bs : List ℕ) (xs : List Lexeme) → Says bs xs → Says (32 ∷ bs) xs
says_blank bs xs h = record {
  says = λ rest at ys ends k. blank_lexed (bs ++ rest) at (xs ++ ys)
      (h.says rest (at + 1) ys ends (moved rest at 1 (length (32 ∷ bs)) (length bs) ys (let z : length (32 ∷ bs) ≡ 1 + length bs = omega arith in z) k));
}

-- one token before whatever it is found before
pub says_before : (s bs : List ℕ) (x : Lexeme) (xs : List Lexeme) → IsToken s x → is_in_range x ≡ true
    → ((rest : List ℕ) → Finds (s ++ (bs ++ rest)) (Found (shape_of x) (length s))) → Says bs xs → Says (s ++ bs) (x ∷ xs)
says_before s bs x xs spelled range found h = record {
  says = λ rest at ys ends k.
      subst (λ (us : List ℕ). Lexed us at (x ∷ (xs ++ ys))) (sym (append_assoc s bs rest))
      (token_lexed s (bs ++ rest) x at (xs ++ ys) spelled range (found rest)
      (h.says rest (at + length s) ys ends (moved rest at (length s) (length (s ++ bs)) (length bs) ys (length-append s bs) k)));
}

pub says_dot : (bs : List ℕ) (xs : List Lexeme) → Says bs xs → Says (46 ∷ bs) (lexemes.Sign Dot ∷ xs)
says_dot bs xs h = says_before (46 ∷ []) bs (lexemes.Sign Dot) xs refl refl (λ rest. dot_found (bs ++ rest)) h

-- one behind another, which it breaks
pub says_append : (us vs : List ℕ) (xs ys : List Lexeme) → Says us xs → Says vs ys → ((rest : List ℕ) → Breaks rest → Breaks (vs ++ rest)) → Says (us ++ vs) (xs ++ ys)
says_append us vs xs ys h k breaks = record {
  says = λ rest at zs ends more.
      subst (λ (bs : List ℕ). Lexed bs at ((xs ++ ys) ++ zs)) (sym (append_assoc us vs rest))
      (subst (λ (ws : List Lexeme). Lexed (us ++ (vs ++ rest)) at ws) (sym (append_assoc xs ys zs))
      (h.says (vs ++ rest) at (ys ++ zs) (breaks rest ends)
      (k.says rest (at + length us) zs ends (moved rest at (length us) (length (us ++ vs)) (length vs) zs (length-append us vs) more))));
}
