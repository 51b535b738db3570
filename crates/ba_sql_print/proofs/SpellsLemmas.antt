-- A text that is put together from tokens and blanks has these tokens.
use Rattle.std.proofs.Common.{◌≡◌, ℕ, ◌+◌, ◌-◌, Bool, true, cond, List, [], ◌∷◌, ◌++◌, length, take, drop, Ok, Err, refl, sym, ap, ◌∙◌, arith, append_assoc}
use Rattle.std.proofs.lemmas.List.{drop_at, take_at}
use Rattle.ba_lex.specs.Spelling.{IsToken, is_in_range, sign_bytes}
use Rattle.ba_lex.specs.Tokens.{front, lexeme_of, lexemes_of, shape_of, token, tokens_from, with_front}
use Rattle.ba_lex.specs.declared.front.Piece.{Piece}
use Rattle.ba_lex.specs.declared.front.Piece.TheVariants.{Found}
use Rattle.ba_lex.specs.declared.front.Shape.{Shape}
use Rattle.ba_lex.specs.declared.token.LexFault.TheVariants.{NumberTooLarge}
use Rattle.ba_lex.specs.declared.token.Lexeme.{Lexeme}
use Rattle.ba_lex.specs.declared.token.Lexeme.TheVariants as lexemes
use Rattle.ba_lex.specs.declared.token.Sign.{Sign}
use Rattle.ba_lex.specs.declared.token.Sign.TheVariants.{Comma, Dot}
use Rattle.ba_lex.specs.declared.token.Token.{Token}
use Rattle.ba_lex.proofs.DecodeLemmas.{lexeme_of-token}
use Rattle.ba_lex.proofs.LoopLemmas.{skip}
use Rattle.ba_lex.proofs.ShapeLemmas.{token_edges}
use Rattle.ba_sql_print.proofs.TokenLemmas.{Breaks, Finds, blank_found, comma_found, dot_found}

-- this token is found before each text that breaks it
pub record Stands (s : List ℕ) (x : Lexeme) : Type 0 where
  pub spelled : IsToken s x
  pub in_range : is_in_range x ≡ true
  pub found : (rest : List ℕ) → Breaks rest → Finds (s ++ rest) (Found (shape_of x) (length s))

pub data Spells : List ℕ → List Lexeme → Type 0 where
  nothing : Spells [] []
  blank : {bs : List ℕ} {xs : List Lexeme} → Spells bs xs → Spells (32 ∷ bs) xs
  comma : {bs : List ℕ} {xs : List Lexeme} → Spells bs xs → Spells (44 ∷ bs) (lexemes.Sign Comma ∷ xs)
  dot : {bs : List ℕ} {xs : List Lexeme} → Spells bs xs → Spells (46 ∷ bs) (lexemes.Sign Dot ∷ xs)
  next : {bs : List ℕ} {xs : List Lexeme} (s rest : List ℕ) (x : Lexeme) → Stands s x → Breaks rest → bs ≡ s ++ rest → Spells rest xs → Spells bs (x ∷ xs)

breaks_append : (us vs : List ℕ) → Breaks us → Breaks vs → Breaks (us ++ vs)
breaks_append [] vs h e = e
breaks_append (u ∷ us) vs h e = h

-- one behind another that it breaks
pub append : {us vs : List ℕ} {xs ys : List Lexeme} → Spells us xs → Spells vs ys → Breaks vs → Spells (us ++ vs) (xs ++ ys)
append nothing t e = t
append (blank h) t e = blank (append h t e)
append (comma h) t e = comma (append h t e)
append (dot h) t e = dot (append h t e)
append {us} {vs} (next s rest x stands ends all h) t e =
    next s (rest ++ vs) x stands (breaks_append rest vs ends e) (ap (λ (r : List ℕ). r ++ vs) all ∙ append_assoc s rest vs) (append h t e)

-- ---- a text that is spelled so has these tokens

pub record Lexed (bs : List ℕ) (at : ℕ) (xs : List Lexeme) : Type 0 where
  pub tokens : List Token
  pub read : tokens_from bs 0 at ≡ Ok tokens
  pub say : lexemes_of tokens ≡ xs

lexed_nothing : (at : ℕ) → Lexed [] at []
unfolding tokens_from
lexed_nothing at = record { tokens = []; read = refl; say = refl }

lexed_blank : (bs : List ℕ) (at : ℕ) (xs : List Lexeme) → Lexed bs (at + 1) xs → Lexed (32 ∷ bs) at xs
unfolding tokens_from
lexed_blank bs at xs h = record { tokens = h.tokens; read = ap (λ (p : Piece). with_front p (32 ∷ bs) at (tokens_from bs)) (blank_found bs) ∙ h.read; say = h.say }

found_read : (b : ℕ) (bs : List ℕ) (at n : ℕ) (shape : Shape) (x : Lexeme) (ts : List Token) → front b bs ≡ Found shape n
    → lexeme_of shape (take n (b ∷ bs)) ≡ Ok x
    → tokens_from bs (n - 1) (at + 1) ≡ Ok ts → tokens_from (b ∷ bs) 0 at ≡ Ok (token x at (at + n) ∷ ts)
unfolding tokens_from
found_read b bs at n shape x ts is says more = rw (is, says, more) refl

said : (s : List ℕ) (x : Lexeme) → Stands s x → lexeme_of (shape_of x) s ≡ Ok x
said s x h = lexeme_of-token s x h.spelled ∙ ap (λ (t : Bool). cond t (Ok x) (Err NumberTooLarge)) h.in_range

lexed_next : (bs s rest : List ℕ) (x : Lexeme) (at : ℕ) (xs : List Lexeme) → Stands s x → Breaks rest → bs ≡ s ++ rest → Lexed rest (at + length s) xs
    → Lexed bs at (x ∷ xs)
lexed_next bs [] rest x at xs stands ends all h = absurd (omega (arith, (token_edges [] x stands.spelled).some))
lexed_next bs (b ∷ s) rest x at xs stands ends all h =
    let n : ℕ = length (b ∷ s) in
    let taken : take n (b ∷ (s ++ rest)) ≡ b ∷ s = take_at (b ∷ s) rest n refl in
    let says : lexeme_of (shape_of x) (take n (b ∷ (s ++ rest))) ≡ Ok x = ap (lexeme_of (shape_of x)) taken ∙ said (b ∷ s) x stands in
    let size : n - 1 ≡ length s = omega arith in
    let place : (at + 1) + (n - 1) ≡ at + n = omega arith in
    let dropped : drop (n - 1) (s ++ rest) ≡ rest = drop_at s rest (n - 1) (sym size) in
    let more : tokens_from (s ++ rest) (n - 1) (at + 1) ≡ Ok h.tokens =
    skip (s ++ rest) (n - 1) (at + 1) ∙ ap (λ (r : List ℕ). tokens_from r 0 ((at + 1) + (n - 1))) dropped ∙ ap (tokens_from rest 0) place ∙ h.read in
    record {
      tokens = token x at (at + n) ∷ h.tokens;
      read = ap (λ (r : List ℕ). tokens_from r 0 at) all ∙ found_read b (s ++ rest) at n (shape_of x) x h.tokens (stands.found rest ends) says more;
      say = ap (λ (ys : List Lexeme). x ∷ ys) h.say;
    }

sign_stands_any : (b : ℕ) (x : Sign) (bs : List ℕ) (at : ℕ) (xs : List Lexeme) → sign_bytes x ≡ b ∷ [] → front b bs ≡ Found (shape_of (lexemes.Sign x)) 1
    → Lexed bs (at + 1) xs → Lexed (b ∷ bs) at (lexemes.Sign x ∷ xs)
sign_stands_any b x bs at xs e is h =
    record {
      tokens = token (lexemes.Sign x) at (at + 1) ∷ h.tokens;
      read = found_read b bs at 1 (shape_of (lexemes.Sign x)) (lexemes.Sign x) h.tokens is (lexeme_of-token (b ∷ []) (lexemes.Sign x) (sym e)) h.read;
      say = ap (λ (ys : List Lexeme). lexemes.Sign x ∷ ys) h.say;
    }

pub lexed : {bs : List ℕ} {xs : List Lexeme} (at : ℕ) → Spells bs xs → Lexed bs at xs
lexed at nothing = lexed_nothing at
lexed at (blank {bs} {xs} h) = lexed_blank bs at xs (lexed (at + 1) h)
lexed at (comma {bs} {xs} h) = sign_stands_any 44 Comma bs at xs refl (comma_found bs) (lexed (at + 1) h)
lexed at (dot {bs} {xs} h) = sign_stands_any 46 Dot bs at xs refl (dot_found bs) (lexed (at + 1) h)
lexed at (next {bs} {xs} s rest x stands ends all h) = lexed_next bs s rest x at xs stands ends all (lexed (at + length s) h)
