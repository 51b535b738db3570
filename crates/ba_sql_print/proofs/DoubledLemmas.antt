-- A text whose quotes are doubled.
use Rattle.std.proofs.Common.{◌≡◌, ℕ, suc, ◌+◌, List, [], ◌∷◌, ◌++◌, length, drop, get_or, refl, sym, ap, subst, ◌∙◌, append_assoc, arith, length-append}
use Rattle.std.specs.Str.{IsUtf8}
use Rattle.std.proofs.lemmas.Bool.{ne_eqb}
use Rattle.std.proofs.lemmas.List.{drop_at, get_or_at}
use Rattle.std.proofs.lemmas.Str.{IsCharBoundary-after_ascii, IsUtf8-drop}
use Rattle.ba_lex.specs.Spelling.{doubled}
use Rattle.ba_lex.specs.Tokens.{HasNoQuote}

no_quote_behind : (b : ℕ) (bs : List ℕ) → HasNoQuote (b ∷ bs) → HasNoQuote bs
no_quote_behind b bs h k lt = h (suc k) (omega arith)

doubled_front : (xs ys : List ℕ) → HasNoQuote xs → doubled (xs ++ 39 ∷ ys) ≡ xs ++ 39 ∷ 39 ∷ doubled ys
doubled_front [] ys h = refl
doubled_front (b ∷ bs) ys h = rw (ne_eqb b 39 (h 0 (omega arith))) (ap (λ (r : List ℕ). b ∷ r) (doubled_front bs ys (no_quote_behind b bs h)))

doubled_none : (xs : List ℕ) → HasNoQuote xs → doubled xs ≡ xs
doubled_none [] h = refl
doubled_none (b ∷ bs) h = rw (ne_eqb b 39 (h 0 (omega arith))) (ap (λ (r : List ℕ). b ∷ r) (doubled_none bs (no_quote_behind b bs h)))

regroup : (a b u : List ℕ) → ((a ++ b) ++ 39 ∷ 39 ∷ []) ++ u ≡ a ++ (b ++ 39 ∷ 39 ∷ u)
regroup a b u = simp append_assoc

pub one_more : (found found2 before after rest total : List ℕ) → found2 ≡ (found ++ before) ++ 39 ∷ 39 ∷ [] → HasNoQuote before → rest ≡ before ++ 39 ∷ after
    → found ++ doubled rest ≡ total → found2 ++ doubled after ≡ total
one_more found found2 before after rest total f none split so_far =
    ap (λ (u : List ℕ). u ++ doubled after) f
    ∙ regroup found before (doubled after)
    ∙ ap (λ (u : List ℕ). found ++ u) (sym (doubled_front before after none) ∙ ap doubled (sym split)) ∙ so_far

pub at_end : (found found2 rest total : List ℕ) → found2 ≡ found ++ rest → HasNoQuote rest → found ++ doubled rest ≡ total → found2 ≡ total
at_end found found2 rest total f none so_far = f ∙ ap (λ (u : List ℕ). found ++ u) (sym (doubled_none rest none)) ∙ so_far

pub behind_quote : (before after rest : List ℕ) → IsUtf8 rest → rest ≡ before ++ 39 ∷ after → IsUtf8 after
behind_quote before after rest u e =
    let first : get_or rest (length before) 0 ≡ 39 = ap (λ (r : List ℕ). get_or r (length before) 0) e ∙ get_or_at before 39 after 0 (length before) refl in
    let size : length rest ≡ length before + suc (length after) = ap length e ∙ length-append before (39 ∷ after) in
    let front : length (before ++ 39 ∷ []) ≡ length before + 1 = length-append before (39 ∷ []) in
    let tail : drop (length before + 1) rest ≡ after =
    ap (drop (length before + 1)) (e ∙ sym (append_assoc before (39 ∷ []) after)) ∙ drop_at (before ++ 39 ∷ []) after (length before + 1) front in
    subst IsUtf8 tail (IsUtf8-drop rest (length before + 1) u (IsCharBoundary-after_ascii rest (length before) u (omega (arith, size)) (omega (arith, first))))
