-- A text whose doubled quotes are made single.
use Rattle.std.proofs.Common.{◌≡◌, ℕ, suc, Bool, true, false, eqb, List, [], ◌∷◌, ◌++◌, refl, sym, ap, ◌∙◌, append_assoc, arith}
use Rattle.std.proofs.lemmas.Bool.{eqb-true, ne_eqb}
use Rattle.ba_lex.specs.Spelling.{doubled}
use Rattle.ba_lex.specs.Tokens.{HasNoQuote, after_quote, undoubled}

no_quote_behind : (b : ℕ) (bs : List ℕ) → HasNoQuote (b ∷ bs) → HasNoQuote bs
no_quote_behind b bs h k lt = h (suc k) (omega arith)

pub keeps_front : (xs ys : List ℕ) → HasNoQuote xs → undoubled false (xs ++ 39 ∷ ys) ≡ xs ++ 39 ∷ undoubled true ys
unfolding undoubled
keeps_front [] ys h = refl
keeps_front (b ∷ bs) ys h = rw (ne_eqb b 39 (h 0 (omega arith))) (ap (λ (r : List ℕ). b ∷ r) (keeps_front bs ys (no_quote_behind b bs h)))

pub keeps_all : (xs : List ℕ) → HasNoQuote xs → undoubled false xs ≡ xs
unfolding undoubled
keeps_all [] h = refl
keeps_all (b ∷ bs) h = rw (ne_eqb b 39 (h 0 (omega arith))) (ap (λ (r : List ℕ). b ∷ r) (keeps_all bs (no_quote_behind b bs h)))

pub drops_one : (ys : List ℕ) → undoubled true ys ≡ undoubled false (after_quote ys)
unfolding undoubled
drops_one [] = refl
drops_one (b ∷ bs) = at (eqb b 39) refl
  where
    at : (t : Bool) → eqb b 39 ≡ t → undoubled true (b ∷ bs) ≡ undoubled false (after_quote (b ∷ bs))
    at true e = rw e refl
    at false e = rw e (rw e refl)

pub undoubled-doubled : (text : List ℕ) → undoubled false (doubled text) ≡ text
unfolding undoubled
undoubled-doubled [] = refl
undoubled-doubled (b ∷ bs) = at (eqb b 39) refl (undoubled-doubled bs)
  where
    at : (t : Bool) → eqb b 39 ≡ t → undoubled false (doubled bs) ≡ bs → undoubled false (doubled (b ∷ bs)) ≡ b ∷ bs
    at true e more = rw e (let same : 39 ≡ b = omega (arith, eqb-true b 39 e) in ap (λ (r : List ℕ). 39 ∷ r) more ∙ ap (λ (n : ℕ). n ∷ bs) same)
    at false e more = rw e (rw e (ap (λ (r : List ℕ). b ∷ r) more))

regroup : (a b u : List ℕ) (q : ℕ) → ((a ++ b) ++ q ∷ []) ++ u ≡ a ++ (b ++ q ∷ u)
regroup a b u q = simp append_assoc

skips : (before after : List ℕ) → HasNoQuote before → before ++ 39 ∷ undoubled false (after_quote after) ≡ undoubled false (before ++ 39 ∷ after)
skips before after none = ap (λ (u : List ℕ). before ++ 39 ∷ u) (sym (drops_one after)) ∙ sym (keeps_front before after none)

-- a turn of the loop, and its end
pub one_more : (found found2 before after rest rest2 total : List ℕ) → found2 ≡ (found ++ before) ++ 39 ∷ [] → rest2 ≡ after_quote after → HasNoQuote before → rest ≡ before ++ 39 ∷ after
    → found ++ undoubled false rest ≡ total → found2 ++ undoubled false rest2 ≡ total
one_more found found2 before after rest rest2 total f r none split so_far =
    ap2 f r
    ∙ regroup found before (undoubled false (after_quote after)) 39
    ∙ ap (λ (u : List ℕ). found ++ u) (skips before after none ∙ ap (undoubled false) (sym split)) ∙ so_far
  where
    ap2 : found2 ≡ (found ++ before) ++ 39 ∷ [] → rest2 ≡ after_quote after → found2 ++ undoubled false rest2 ≡ ((found ++ before) ++ 39 ∷ []) ++ undoubled false (after_quote after)
    ap2 f r = cc

pub at_end : (found found2 rest total : List ℕ) → found2 ≡ found ++ rest → HasNoQuote rest → found ++ undoubled false rest ≡ total → found2 ≡ total
at_end found found2 rest total f none so_far = f ∙ ap (λ (u : List ℕ). found ++ u) (sym (keeps_all rest none)) ∙ so_far
