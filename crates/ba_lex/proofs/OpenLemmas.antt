-- What a quote without its end has at its front.
use Rattle.std.proofs.Common.{◌≡◌, ◌≢◌, ℕ, Bool, true, false, not, eqb, List, [], ◌∷◌, length, inl, inr, ◌⊎◌, None, refl, ◌∙◌, arith, eq-eqb}
use Rattle.std.specs.List.{All, prefix_len}
use Rattle.std.proofs.lemmas.Bool.{eqb-true, ne_eqb, or_cases}
use Rattle.std.proofs.lemmas.List.Elements.{All-head, All-tail}
use Rattle.ba_lex.specs.Faults.{IsOpenQuote}
use Rattle.ba_lex.specs.Spelling.{doubled, is_blank, is_name_quote}
use Rattle.ba_lex.specs.Tokens.{front, name, text_len}
use Rattle.ba_lex.specs.declared.front.Piece.TheVariants.{Gap, Bad}
use Rattle.ba_lex.specs.declared.token.LexFault.TheVariants.{OpenQuote}

pub blank_front : (b : ℕ) (bs : List ℕ) → is_blank b ≡ true → front b bs ≡ Gap 1
unfolding front
blank_front b bs h = rw h refl

not_ended : (t : List ℕ) → text_len false (doubled t) ≡ None
unfolding text_len
not_ended [] = refl
not_ended (b ∷ t) = at (eqb b 39) refl (not_ended t)
  where
    at : (c : Bool) → eqb b 39 ≡ c → text_len false (doubled t) ≡ None → text_len false (doubled (b ∷ t)) ≡ None
    at true e more = rw e (rw more refl)
    at false e more = rw e (rw e (rw more refl))

open_text : (t : List ℕ) → front 39 (doubled t) ≡ Bad OpenQuote
unfolding front
open_text t = rw (not_ended t) refl

all_run : (q : ℕ) (bs : List ℕ) → All (λ b. b ≢ q) bs → prefix_len (λ b. not (eqb b q)) bs ≡ length bs
all_run q [] h = refl
all_run q (b ∷ bs) h = let more = all_run q bs (All-tail (λ d. d ≢ q) b bs h) in rw (ne_eqb b q (All-head (λ d. d ≢ q) b bs h)) (omega (arith, more))

name_open : (q : ℕ) (bs : List ℕ) → All (λ b. b ≢ q) bs → name q bs ≡ Bad OpenQuote
name_open q bs h = rw (all_run q bs h, eq-eqb (length bs) (length bs) refl) refl

at_34 : (bs : List ℕ) → front 34 bs ≡ name 34 bs
unfolding front
at_34 bs = refl

at_96 : (bs : List ℕ) → front 96 bs ≡ name 96 bs
unfolding front
at_96 bs = refl

open_name : (q : ℕ) (bs : List ℕ) → is_name_quote q ≡ true → All (λ b. b ≢ q) bs → front q bs ≡ Bad OpenQuote
open_name q bs h none = at (or_cases (eqb q 34) (eqb q 96) h)
  where
    at : (eqb q 34 ≡ true) ⊎ (eqb q 96 ≡ true) → front q bs ≡ Bad OpenQuote
    at (inl k) = let same = eqb-true q 34 k in rw same (at_34 bs ∙ name_open 34 bs (rw same at none))
    at (inr k) = let same = eqb-true q 96 k in rw same (at_96 bs ∙ name_open 96 bs (rw same at none))

pub open_front : (b : ℕ) (bs : List ℕ) → IsOpenQuote (b ∷ bs) → front b bs ≡ Bad OpenQuote
open_front b bs (inl h) = same b bs 39 (doubled h.inside) h.all ∙ open_text h.inside
  where
    same : (b : ℕ) (bs : List ℕ) (c : ℕ) (cs : List ℕ) → b ∷ bs ≡ c ∷ cs → front b bs ≡ front c cs
    same b bs c cs e = let head : b ≡ c = cc in let tail : bs ≡ cs = cc in rw (head, tail) refl
open_front b bs (inr h) = same b bs h.quote h.behind h.all ∙ open_name h.quote h.behind h.is_quote h.no_end
  where
    same : (b : ℕ) (bs : List ℕ) (c : ℕ) (cs : List ℕ) → b ∷ bs ≡ c ∷ cs → front b bs ≡ front c cs
    same b bs c cs e = let head : b ≡ c = cc in let tail : bs ≡ cs = cc in rw (head, tail) refl
