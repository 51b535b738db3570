-- Bounds of a term from the values before it, and numbers one after another.
use Rattle.std.proofs.Common.{◌≡◌, ℕ, ◌<◌, ◌≤◌, ℤ, pos, ◌+ℤ◌, ◌≤ℤ◌, List, [], ◌∷◌, ◌++◌, length, map, Option, None, Some, refl, sym, ap, subst, ⊎_elim, arith}
use Rattle.std.specs.Int.{int_max, int_min}
use Rattle.std.specs.List.{zip}
use Rattle.std.proofs.lemmas.Bool.{cases_lt}
use Rattle.std.proofs.lemmas.Int.{ints, clamps, by_lt_z}
use Rattle.std.proofs.lemmas.List.{length_push, take-append-le, take_at, get_or_append_left, get_or_push}
use Rattle.std.proofs.lemmas.List.Elements.{Contains-append_left, Contains-push, Contains-push_cases}
use Rattle.ba_classes.specs.Image.{IsGreatest, IsLeast, greater_of, lesser_of}
use Rattle.ba_facts.specs.Known.{Known, ShownGap}
use Rattle.ba_facts.specs.declared.term.Term.{Term}
use Rattle.ba_facts.specs.declared.term.Term.TheVariants.{Unknown, Val}
use Rattle.ba_model.specs.declared.value.Value.TheVariants.{Int}
use Rattle.ba_refute.specs.Images.{AreNumbers, IsLowerBound, IsUpperBound, IsNumberOf, with_zero}

module _ (k : Known) (valued : List (Term × ℤ)) (term other : Term) (value : ℤ) where
  abbrev more : List (Term × ℤ)
  more = valued ++ (other, value) ∷ []

  -- a lower bound by one more value is one by the values before, or by that value
  least_cases : {A : Type 0} (c : ℤ) → (IsLowerBound k valued term c → A) → ((g : ℤ) → ShownGap k other g term → c ≤ℤ (value +ℤ g) → A) → IsLowerBound k more term c → A
  least_cases c old new b =
      ⊎_elim
      (λ h. old (record { other = b.other; value = b.value; gap = b.gap; has_value = h; shown = b.shown; enough = b.enough }))
      (λ (e : (other, value) ≡ (b.other, b.value)).
      new b.gap (subst (λ n. ShownGap k n b.gap term) (sym (ap (λ (p : Term × ℤ). p.0) e)) b.shown) (subst (λ v. c ≤ℤ (v +ℤ b.gap)) (sym (ap (λ (p : Term × ℤ). p.1) e)) b.enough))
      (Contains-push_cases valued (other, value) (b.other, b.value) b.has_value)

  least_old : (c : ℤ) → IsLowerBound k valued term c → IsLowerBound k more term c
  least_old c b = record { other = b.other; value = b.value; gap = b.gap; has_value = Contains-append_left valued _ _ b.has_value; shown = b.shown; enough = b.enough }

  least_new : (c g : ℤ) → ShownGap k other g term → c ≤ℤ (value +ℤ g) → IsLowerBound k more term c
  least_new c g s e = record { other = other; value = value; gap = g; has_value = Contains-push valued (other, value); shown = s; enough = e }

  pub least_same : (low : Option ℤ) → IsGreatest (IsLowerBound k valued term) low → ((g : ℤ) → ShownGap k other g term → ⊥) → IsGreatest (IsLowerBound k more term) low
  least_same None is no_gap = λ c b. least_cases c (is c) (λ g s e. no_gap g s) b
  least_same (Some m) is no_gap = (least_old m is.0, λ c b. least_cases c (is.1 c) (λ g s e. absurd (no_gap g s)) b)

  pub least_more : (low : Option ℤ) (gap bound : ℤ) → IsGreatest (IsLowerBound k valued term) low → ShownGap k other gap term → ((g : ℤ) → ShownGap k other g term → g ≤ℤ gap) → bound ≡ value +ℤ gap → IsGreatest (IsLowerBound k more term) (Some (greater_of low bound))
  least_more None gap bound is shown best e = (
    least_new bound gap shown (omega (arith, ints, e)),
    λ c b. least_cases c (λ h. absurd (is c h)) (λ g s f. omega (arith, ints, e, f, best g s)) b,
  )
  least_more (Some m) gap bound is shown best e = (
    by_lt_z {P = IsLowerBound k more term (int_max m bound)} m bound
        (λ less. least_new (int_max m bound) gap shown (omega (arith, ints, clamps, e)))
        (λ high. let top : m ≡ int_max m bound = omega (arith, ints, clamps) in subst (IsLowerBound k more term) top (least_old m is.0)),
    λ c b. least_cases c (λ h. omega (arith, ints, clamps, is.1 c h)) (λ g s f. omega (arith, ints, clamps, e, f, best g s)) b,
  )

  -- the same of upper bounds
  most_cases : {A : Type 0} (c : ℤ) → (IsUpperBound k valued term c → A) → ((g : ℤ) → ShownGap k term g other → value ≤ℤ (c +ℤ g) → A) → IsUpperBound k more term c → A
  most_cases c old new b =
      ⊎_elim
      (λ h. old (record { other = b.other; value = b.value; gap = b.gap; has_value = h; shown = b.shown; enough = b.enough }))
      (λ (e : (other, value) ≡ (b.other, b.value)).
      new b.gap (subst (λ n. ShownGap k term b.gap n) (sym (ap (λ (p : Term × ℤ). p.0) e)) b.shown) (subst (λ v. v ≤ℤ (c +ℤ b.gap)) (sym (ap (λ (p : Term × ℤ). p.1) e)) b.enough))
      (Contains-push_cases valued (other, value) (b.other, b.value) b.has_value)

  most_old : (c : ℤ) → IsUpperBound k valued term c → IsUpperBound k more term c
  most_old c b = record { other = b.other; value = b.value; gap = b.gap; has_value = Contains-append_left valued _ _ b.has_value; shown = b.shown; enough = b.enough }

  most_new : (c g : ℤ) → ShownGap k term g other → value ≤ℤ (c +ℤ g) → IsUpperBound k more term c
  most_new c g s e = record { other = other; value = value; gap = g; has_value = Contains-push valued (other, value); shown = s; enough = e }

  pub most_same : (high : Option ℤ) → IsLeast (IsUpperBound k valued term) high → ((g : ℤ) → ShownGap k term g other → ⊥) → IsLeast (IsUpperBound k more term) high
  most_same None is no_gap = λ c b. most_cases c (is c) (λ g s e. no_gap g s) b
  most_same (Some m) is no_gap = (most_old m is.0, λ c b. most_cases c (is.1 c) (λ g s e. absurd (no_gap g s)) b)

  pub most_more : (high : Option ℤ) (gap bound : ℤ) → IsLeast (IsUpperBound k valued term) high → ShownGap k term gap other → ((g : ℤ) → ShownGap k term g other → g ≤ℤ gap) → bound +ℤ gap ≡ value → IsLeast (IsUpperBound k more term) (Some (lesser_of high bound))
  most_more None gap bound is shown best e = (
    most_new bound gap shown (omega (arith, ints, e)),
    λ c b. most_cases c (λ h. absurd (is c h)) (λ g s f. omega (arith, ints, e, f, best g s)) b,
  )
  most_more (Some m) gap bound is shown best e = (
    by_lt_z {P = IsUpperBound k more term (int_min m bound)} bound m
        (λ less. most_new (int_min m bound) gap shown (omega (arith, ints, clamps, e)))
        (λ low. let bottom : m ≡ int_min m bound = omega (arith, ints, clamps) in subst (IsUpperBound k more term) bottom (most_old m is.0)),
    λ c b. most_cases c (λ h. omega (arith, ints, clamps, is.1 c h)) (λ g s f. omega (arith, ints, clamps, e, f, best g s)) b,
  )

-- pairs of two lists with one more element each
zip-push : (xs : List ℕ) (vs : List ℤ) (x : ℕ) (v : ℤ) → length vs ≡ length xs → zip (map Unknown (xs ++ x ∷ [])) (vs ++ v ∷ []) ≡ zip (map Unknown xs) vs ++ (Unknown x, v) ∷ []
zip-push [] [] x v e = refl
zip-push [] (w ∷ vs) x v e = absurd (omega arith)
zip-push (y ∷ xs) [] x v e = absurd (omega arith)
zip-push (y ∷ xs) (w ∷ vs) x v e = ap (λ ps. (Unknown y, w) ∷ ps) (zip-push xs vs x v (omega arith))

pub with_zero-push : (xs : List ℕ) (vs : List ℤ) (x : ℕ) (v : ℤ) → length vs ≡ length xs → with_zero (xs ++ x ∷ []) (vs ++ v ∷ []) ≡ with_zero xs vs ++ (Unknown x, v) ∷ []
with_zero-push xs vs x v e = ap (λ ps. (Val (Int (pos 0)), pos 0) ∷ ps) (zip-push xs vs x v e)

same_value : (k : Known) (used : List ℤ) (xs ys : List ℕ) (vs ws : List ℤ) (x y : ℕ) (v w : ℤ) → xs ≡ ys → vs ≡ ws → x ≡ y → v ≡ w → IsNumberOf k (with_zero xs vs) (used ++ vs) (Unknown x) v → IsNumberOf k (with_zero ys ws) (used ++ ws) (Unknown y) w
same_value k used xs ys vs ws x y v w p q r s h =
    subst (λ b. IsNumberOf k (with_zero ys ws) (used ++ ws) (Unknown y) b) s
    (subst (λ n. IsNumberOf k (with_zero ys ws) (used ++ ws) (Unknown n) v) r
    (subst (λ bs. IsNumberOf k (with_zero ys bs) (used ++ bs) (Unknown x) v) q
    (subst (λ ns. IsNumberOf k (with_zero ns vs) (used ++ vs) (Unknown x) v) p h)))

pub numbers-more : (k : Known) (used : List ℤ) (xs : List ℕ) (vs : List ℤ) (x : ℕ) (v : ℤ) → AreNumbers k used xs vs → IsNumberOf k (with_zero xs vs) (used ++ vs) (Unknown x) v → AreNumbers k used (xs ++ x ∷ []) (vs ++ v ∷ [])
numbers-more k used xs vs x v image is = record {
  len = omega (arith, image.len, length_push xs x, length_push vs v);
  each = λ i h.
      ⊎_elim
      (λ (old : i < length xs).
      same_value k used _ _ _ _ _ _ _ _
      (sym (take-append-le i xs _ (omega arith))) (sym (take-append-le i vs _ (omega (arith, image.len))))
      (sym (get_or_append_left xs _ 0 i old)) (sym (get_or_append_left vs _ (pos 0) i (omega (arith, image.len))))
      (image.each i old))
      (λ (past : length xs ≤ i).
      let last : length xs ≡ i = omega (arith, length_push xs x) in
      let last_value : length vs ≡ i = omega (arith, image.len) in
      same_value k used _ _ _ _ _ _ _ _
      (sym (take_at xs _ i last)) (sym (take_at vs _ i last_value))
      (sym (get_or_push xs x 0 i last)) (sym (get_or_push vs v (pos 0) i last_value))
      is)
      (cases_lt i (length xs));
}
