-- Distinct elements that are all among these are no more than these.
use Rattle.std.proofs.Common.{◌≡◌, ◌≢◌, ℕ, zero, suc, ◌+◌, ◌-◌, ◌<◌, ◌≤◌, List, [], ◌∷◌, length, get_or, remove, refl, sym, ap, ◌∙◌, subst, ⊎_elim, arith}
use Rattle.std.proofs.lemmas.Bool.{cases_lt, cases_eq}
use Rattle.std.proofs.lemmas.List.{get_or_default}
use Rattle.std.proofs.lemmas.List.Edits.{length-remove, get_or-remove_above, get_or-remove_below}
use Rattle.std.specs.List.{AllPairs, Contains}

above : (i k : ℕ) → (i ≡ k → ⊥) → i ≤ k → i < k
above i k other from = ⊎_elim (λ less. less) (λ back. absurd (other (omega arith))) (cases_lt i k)

module _ {X : Type 0} where
  -- what is not the element that goes stays
  stays_at : (ys : List X) (i k : ℕ) (x z : X) → i < length ys → get_or ys i x ≡ x → x ≢ z → k < length ys → get_or ys k z ≡ z → Contains (remove ys i) z
  stays_at ys i k x z below there apart inside is =
      let long = length-remove ys i below in
      ⊎_elim
      (λ low. (k, omega arith, get_or-remove_below ys i z k low below ∙ is))
      (λ from. ⊎_elim
      (λ same. absurd (apart (sym there ∙ (get_or_default ys i x z below ∙ (ap (λ n. get_or ys n z) same ∙ is)))))
      (λ other.
      let beyond = above i k other from in
      let back : (k - 1) + 1 ≡ k = omega arith in
      (k - 1, omega arith, get_or-remove_above ys i z (k - 1) (omega arith) below ∙ (ap (λ n. get_or ys n z) back ∙ is)))
      (cases_eq i k))
      (cases_lt k i)

  differs : (x z : X) (xs : List X) → AllPairs (λ x y. x ≢ y) (x ∷ xs) → Contains xs z → x ≢ z
  differs x z xs distinct there = subst (λ y. x ≢ y) there.2 (distinct zero (suc there.0) z (omega arith) (let below = there.1 in omega arith))

  pub no_more : (xs ys : List X) → AllPairs (λ x y. x ≢ y) xs → ((x : X) → Contains xs x → Contains ys x) → length xs ≤ length ys
  no_more [] ys distinct among = omega arith
  no_more (x ∷ xs) ys distinct among =
      let first = among x (0, omega arith, refl) in
      let inside = first.1 in
      let long = length-remove ys first.0 inside in
      let further : (z : X) → Contains xs z → Contains ys z = λ z there. among z (suc there.0, (let below = there.1 in omega arith), there.2) in
      let few = no_more xs (remove ys first.0) (λ i j d less below. distinct (suc i) (suc j) d (omega arith) (omega arith))
      (λ z there. let other = further z there in stays_at ys first.0 other.0 x z inside first.2 (differs x z xs distinct there) other.1 other.2) in
      omega arith
