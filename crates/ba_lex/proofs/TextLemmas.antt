-- A text's length as the loop finds it.
use Rattle.std.proofs.Common.{◌≡◌, ℕ, suc, ◌+◌, ◌<◌, ◌≤◌, Bool, true, false, cond, List, length, drop, get_or, drop-cons, Option, Some, None, option_map, refl, sym, ap, ◌∙◌, arith, add-one}
use Rattle.std.proofs.lemmas.List.{drop_all}
use Rattle.ba_lex.specs.Tokens.{quote_after, text_len}

abbrev pub plus : ℕ → Option ℕ → Option ℕ
plus k = option_map (λ n. n + k)

plus_suc : (o : Option ℕ) (k : ℕ) → plus k (option_map suc o) ≡ plus (k + 1) o
plus_suc None k = refl
plus_suc (Some n) k = let e : suc n + k ≡ n + (k + 1) = omega arith in ap Some e

pub text_on : (rest : List ℕ) (at : ℕ) (q q2 : Bool) → at < length rest → Some q2 ≡ quote_after q (get_or rest at 0) → plus at (text_len q (drop at rest)) ≡ plus (at + 1) (text_len q2 (drop (at + 1) rest))
unfolding text_len
text_on rest at q q2 h e = rw (drop-cons rest at 0 h) (rw (← e) (plus_suc (text_len q2 (drop (suc at) rest)) at ∙ ap (λ (n : ℕ). plus (at + 1) (text_len q2 (drop n rest))) (sym (add-one at))))

pub text_stop : (rest : List ℕ) (at : ℕ) (q : Bool) → at < length rest → ◌≡◌ {A = Option Bool} None (quote_after q (get_or rest at 0)) → plus at (text_len q (drop at rest)) ≡ Some at
unfolding text_len
text_stop rest at q h e = rw (drop-cons rest at 0 h) (rw (← e) (ap Some (let z : 0 + at ≡ at = omega arith in z)))

pub text_over : (rest : List ℕ) (at : ℕ) (q : Bool) → length rest ≤ at → plus at (text_len q (drop at rest)) ≡ cond q (Some at) None
unfolding text_len
text_over rest at true h = rw (drop_all at rest h) (ap Some (let z : 0 + at ≡ at = omega arith in z))
text_over rest at false h = rw (drop_all at rest h) refl
