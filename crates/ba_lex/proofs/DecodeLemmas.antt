-- A spelling says the lexeme that it spells.
use Rattle.std.proofs.Common.{◌≡◌, ℕ, ℤ, ◌-◌, Bool, true, false, cond, List, [], ◌∷◌, ◌++◌, length, Result, Ok, Err, refl, sym, ap, subst, ◌∙◌, arith, length-append}
use Rattle.std.proofs.lemmas.List.{take_at}
use Rattle.ba_lex.specs.Spelling.{IsToken, SpellsNumber, doubled, fits, is_in_range}
use Rattle.ba_lex.specs.Tokens.{IsOfShape, inside, lexeme_of, number_of, shape_of, undoubled}
use Rattle.ba_lex.specs.declared.front.Shape.{Shape}
use Rattle.ba_lex.specs.declared.token.LexFault.{LexFault}
use Rattle.ba_lex.specs.declared.token.LexFault.TheVariants.{NumberTooLarge}
use Rattle.ba_lex.specs.declared.token.Lexeme.{Lexeme}
use Rattle.ba_lex.specs.declared.token.Lexeme.TheVariants as lexemes
use Rattle.ba_lex.proofs.NumberLemmas.{signed_value_is}
use Rattle.ba_lex.proofs.QuoteLemmas.{undoubled-doubled}

abbrev pub checked : Lexeme → Result Lexeme LexFault
checked x = cond (is_in_range x) (Ok x) (Err NumberTooLarge)

inside-quoted : (q : ℕ) (w : List ℕ) → inside (q ∷ (w ++ q ∷ [])) ≡ w
inside-quoted q w =
    let size : length w ≡ length (q ∷ (w ++ q ∷ [])) - 2 = omega (arith, length-append w (q ∷ [])) in
    take_at w (q ∷ []) (length (q ∷ (w ++ q ∷ [])) - 2) size

pub lexeme_of-token : (s : List ℕ) (x : Lexeme) → IsToken s x → lexeme_of (shape_of x) s ≡ checked x
unfolding lexeme_of
lexeme_of-token s (lexemes.Word w) h = ap (λ (t : List ℕ). Ok (lexemes.Word t)) h.1
lexeme_of-token s (lexemes.Quoted w) h = ap (λ (t : List ℕ). Ok (lexemes.Quoted t)) (ap inside h.all ∙ inside-quoted h.quote w)
lexeme_of-token s (lexemes.Number n) h = ap number_of (signed_value_is s n h)
lexeme_of-token s (lexemes.Text t) h = ap (λ (u : List ℕ). Ok (lexemes.Text (undoubled false u))) (ap inside h ∙ inside-quoted 39 (doubled t)) ∙ ap (λ (u : List ℕ). Ok (lexemes.Text u)) (undoubled-doubled t)
lexeme_of-token s (lexemes.Param w) h = rw h.1 refl
lexeme_of-token s (lexemes.Sign x) h = refl

-- what a spelling of a shape says is spelled by it, and in range
pub record Says (s : List ℕ) (x : Lexeme) : Type 0 where
  pub spelled : IsToken s x
  pub in_range : is_in_range x ≡ true

from_checked : (s : List ℕ) (y x : Lexeme) → IsToken s y → checked y ≡ Ok x → Says s x
from_checked s y x h e = at (is_in_range y) refl
  where
    ok_same : (y x : Lexeme) → ◌≡◌ {A = Result Lexeme LexFault} (Ok y) (Ok x) → y ≡ x
    ok_same y x e = cc

    err_ok : (x : Lexeme) → ◌≡◌ {A = Result Lexeme LexFault} (Err NumberTooLarge) (Ok x) → ⊥
    err_ok x e = cc

    at : (t : Bool) → is_in_range y ≡ t → Says s x
    at true q = let same : y ≡ x = ok_same y x (rw q at e) in record { spelled = subst (IsToken s) same h; in_range = ap is_in_range (sym same) ∙ q }
    at false q = absurd (err_ok x (rw q at e))

pub says : (s : List ℕ) (k : Shape) (x : Lexeme) → IsOfShape k s → lexeme_of k s ≡ Ok x → Says s x
says s k x h e =
    let by_shape : lexeme_of (shape_of h.lexeme) s ≡ Ok x = ap (λ (j : Shape). lexeme_of j s) h.is_shape ∙ e in
    from_checked s h.lexeme x h.spelled (sym (lexeme_of-token s h.lexeme h.spelled) ∙ by_shape)

-- what a spelling of a shape doesn't say is a number past 64 bits
pub record IsPast (s : List ℕ) (f : LexFault) : Type 0 where
  pub fault : f ≡ NumberTooLarge
  pub number : ℤ
  pub spelled : SpellsNumber s number
  pub past : fits number ≡ false

from_unchecked : (s : List ℕ) (y : Lexeme) (f : LexFault) → IsToken s y → checked y ≡ Err f → IsPast s f
from_unchecked s (lexemes.Word w) f h e = cc
from_unchecked s (lexemes.Quoted w) f h e = cc
from_unchecked s (lexemes.Text t) f h e = cc
from_unchecked s (lexemes.Param w) f h e = cc
from_unchecked s (lexemes.Sign x) f h e = cc
from_unchecked s (lexemes.Number n) f h e = at (fits n) refl
  where
    err_same : (f : LexFault) → ◌≡◌ {A = Result Lexeme LexFault} (Err NumberTooLarge) (Err f) → f ≡ NumberTooLarge
    err_same f e = cc

    ok_err : ◌≡◌ {A = Result Lexeme LexFault} (Ok (lexemes.Number n)) (Err f) → ⊥
    ok_err e = cc

    at : (t : Bool) → fits n ≡ t → IsPast s f
    at true q = absurd (ok_err (rw q at e))
    at false q = record { fault = err_same f (rw q at e); number = n; spelled = h; past = q }

pub unsaid : (s : List ℕ) (k : Shape) (f : LexFault) → IsOfShape k s → lexeme_of k s ≡ Err f → IsPast s f
unsaid s k f h e =
    let by_shape : lexeme_of (shape_of h.lexeme) s ≡ Err f = ap (λ (j : Shape). lexeme_of j s) h.is_shape ∙ e in
    from_unchecked s h.lexeme f h.spelled (sym (lexeme_of-token s h.lexeme h.spelled) ∙ by_shape)
