-- Bounds of a node from the values before it, and what the values make true.
use Rattle.std.proofs.Common.{◌≡◌, ℕ, ◌<◌, ◌≤◌, ℤ, pos, neg_ℤ, ◌+ℤ◌, ◌≤ℤ◌, List, [], ◌∷◌, ◌++◌, Contains, length, Option, None, Some, refl, sym, ap, ◌∙◌, subst, inl, inr, ⊎_elim, arith}
use Rattle.std.specs.Int.{int_max, int_min}
use Rattle.std.specs.List.{zip}
use Rattle.std.proofs.lemmas.Int.{ints, clamps, by_lt_z}
use Rattle.std.proofs.lemmas.List.Elements.{Contains-append_left, Contains-push, Contains-push_cases}
use Rattle.ba_classes.specs.Chains.{Shows, IsAbsurd}
use Rattle.ba_classes.specs.Image.{IsAtLeast, IsAtMost, IsGreatest, IsLeast, IsValueBetween, IsValue, IsImage, Meets, with_zero, greater_of, lesser_of}
use Rattle.ba_classes.specs.declared.order.Difference.{Difference}
use Rattle.std.proofs.lemmas.Bool.{cases_lt}
use Rattle.std.proofs.lemmas.List.{append-nil, append_assoc, length_push, take-append-le, take_at, get_or_append_left, get_or_push}
use Rattle.ba_classes.proofs.ChainLemmas.{Shows-then}
use Rattle.ba_classes.proofs.UnusedLemmas.{Contains-cases}

module _ (facts : List Difference) (valued : List (ℕ × ℤ)) (node other : ℕ) (value : ℤ) where
  abbrev more : List (ℕ × ℤ)
  more = valued ++ (other, value) ∷ []

  -- a lower bound by one more value is one by the values before, or by that value
  least_cases : {A : Type 0} (c : ℤ) → (IsAtLeast facts valued node c → A) → ((g : ℤ) → Shows facts other g node → c ≤ℤ (value +ℤ g) → A) → IsAtLeast facts more node c → A
  least_cases c old new b =
      ⊎_elim
      (λ h. old (record { other = b.other; value = b.value; gap = b.gap; has_value = h; shown = b.shown; enough = b.enough }))
      (λ (e : (other, value) ≡ (b.other, b.value)).
      new b.gap (subst (λ n. Shows facts n b.gap node) (sym (ap (λ (p : ℕ × ℤ). p.0) e)) b.shown) (subst (λ v. c ≤ℤ (v +ℤ b.gap)) (sym (ap (λ (p : ℕ × ℤ). p.1) e)) b.enough))
      (Contains-push_cases valued (other, value) (b.other, b.value) b.has_value)

  least_old : (c : ℤ) → IsAtLeast facts valued node c → IsAtLeast facts more node c
  least_old c b = record { other = b.other; value = b.value; gap = b.gap; has_value = Contains-append_left valued _ _ b.has_value; shown = b.shown; enough = b.enough }

  least_new : (c g : ℤ) → Shows facts other g node → c ≤ℤ (value +ℤ g) → IsAtLeast facts more node c
  least_new c g s e = record { other = other; value = value; gap = g; has_value = Contains-push valued (other, value); shown = s; enough = e }

  pub least_same : (low : Option ℤ) → IsGreatest (IsAtLeast facts valued node) low → ((g : ℤ) → Shows facts other g node → ⊥) → IsGreatest (IsAtLeast facts more node) low
  least_same None is no_gap = λ c b. least_cases c (is c) (λ g s e. no_gap g s) b
  least_same (Some m) is no_gap = (least_old m is.0, λ c b. least_cases c (is.1 c) (λ g s e. absurd (no_gap g s)) b)

  pub least_more : (low : Option ℤ) (gap bound : ℤ) → IsGreatest (IsAtLeast facts valued node) low → Shows facts other gap node → ((g : ℤ) → Shows facts other g node → g ≤ℤ gap) → bound ≡ value +ℤ gap → IsGreatest (IsAtLeast facts more node) (Some (greater_of low bound))
  least_more None gap bound is shown best e = (
    least_new bound gap shown (omega (arith, ints, e)),
    λ c b. least_cases c (λ h. absurd (is c h)) (λ g s f. omega (arith, ints, e, f, best g s)) b,
  )
  least_more (Some m) gap bound is shown best e = (
    by_lt_z {P = IsAtLeast facts more node (int_max m bound)} m bound
        (λ less. least_new (int_max m bound) gap shown (omega (arith, ints, clamps, e)))
        (λ high. let top : m ≡ int_max m bound = omega (arith, ints, clamps) in subst (IsAtLeast facts more node) top (least_old m is.0)),
    λ c b. least_cases c (λ h. omega (arith, ints, clamps, is.1 c h)) (λ g s f. omega (arith, ints, clamps, e, f, best g s)) b,
  )

  -- the same of upper bounds
  most_cases : {A : Type 0} (c : ℤ) → (IsAtMost facts valued node c → A) → ((g : ℤ) → Shows facts node g other → value ≤ℤ (c +ℤ g) → A) → IsAtMost facts more node c → A
  most_cases c old new b =
      ⊎_elim
      (λ h. old (record { other = b.other; value = b.value; gap = b.gap; has_value = h; shown = b.shown; enough = b.enough }))
      (λ (e : (other, value) ≡ (b.other, b.value)).
      new b.gap (subst (λ n. Shows facts node b.gap n) (sym (ap (λ (p : ℕ × ℤ). p.0) e)) b.shown) (subst (λ v. v ≤ℤ (c +ℤ b.gap)) (sym (ap (λ (p : ℕ × ℤ). p.1) e)) b.enough))
      (Contains-push_cases valued (other, value) (b.other, b.value) b.has_value)

  most_old : (c : ℤ) → IsAtMost facts valued node c → IsAtMost facts more node c
  most_old c b = record { other = b.other; value = b.value; gap = b.gap; has_value = Contains-append_left valued _ _ b.has_value; shown = b.shown; enough = b.enough }

  most_new : (c g : ℤ) → Shows facts node g other → value ≤ℤ (c +ℤ g) → IsAtMost facts more node c
  most_new c g s e = record { other = other; value = value; gap = g; has_value = Contains-push valued (other, value); shown = s; enough = e }

  pub most_same : (high : Option ℤ) → IsLeast (IsAtMost facts valued node) high → ((g : ℤ) → Shows facts node g other → ⊥) → IsLeast (IsAtMost facts more node) high
  most_same None is no_gap = λ c b. most_cases c (is c) (λ g s e. no_gap g s) b
  most_same (Some m) is no_gap = (most_old m is.0, λ c b. most_cases c (is.1 c) (λ g s e. absurd (no_gap g s)) b)

  pub most_more : (high : Option ℤ) (gap bound : ℤ) → IsLeast (IsAtMost facts valued node) high → Shows facts node gap other → ((g : ℤ) → Shows facts node g other → g ≤ℤ gap) → bound +ℤ gap ≡ value → IsLeast (IsAtMost facts more node) (Some (lesser_of high bound))
  most_more None gap bound is shown best e = (
    most_new bound gap shown (omega (arith, ints, e)),
    λ c b. most_cases c (λ h. absurd (is c h)) (λ g s f. omega (arith, ints, e, f, best g s)) b,
  )
  most_more (Some m) gap bound is shown best e = (
    by_lt_z {P = IsAtMost facts more node (int_min m bound)} bound m
        (λ less. most_new (int_min m bound) gap shown (omega (arith, ints, clamps, e)))
        (λ low. let bottom : m ≡ int_min m bound = omega (arith, ints, clamps) in subst (IsAtMost facts more node) bottom (most_old m is.0)),
    λ c b. most_cases c (λ h. omega (arith, ints, clamps, is.1 c h)) (λ g s f. omega (arith, ints, clamps, e, f, best g s)) b,
  )

module _ (facts : List Difference) (consistent : ¬ (IsAbsurd facts)) where
  -- no node is above itself
  no_rise : (x : ℕ) (k : ℤ) → Shows facts x k x → k ≤ℤ pos 0
  no_rise x k s =
      by_lt_z {P = k ≤ℤ pos 0} (pos 0) k
      (λ up. absurd (consistent (record { node = x; sum = s.sum; above = omega (arith, ints, s.enough); chain = s.chain })))
      (λ down. down)

  only_zero : (p : ℕ × ℤ) → Contains ((0, pos 0) ∷ []) p → (0, pos 0) ≡ p
  only_zero p c = ⊎_elim (λ e. e) (λ (h : Contains [] p). absurd (omega (arith, h.1))) (Contains-cases p (0, pos 0) [] c)

  pub Meets-zero : Meets facts ((0, pos 0) ∷ [])
  Meets-zero = record {
    each = λ x y v w k h g s.
        let left = only_zero (x, v) h in
        let right = only_zero (y, w) g in
        let loop : Shows facts 0 k 0 = subst (λ n. Shows facts n k 0) (sym (ap (λ (p : ℕ × ℤ). p.0) left)) (subst (λ n. Shows facts x k n) (sym (ap (λ (p : ℕ × ℤ). p.0) right)) s) in
        omega (arith, ints, no_rise 0 k loop, ap (λ (p : ℕ × ℤ). p.1) left, ap (λ (p : ℕ × ℤ). p.1) right);
  }

  module _ (valued : List (ℕ × ℤ)) (meets : Meets facts valued) (used : List ℤ) (node : ℕ) (value : ℤ) where
    -- a lower bound isn't above an upper bound
    in_order : (l h : ℤ) → IsAtLeast facts valued node l → IsAtMost facts valued node h → l ≤ℤ h
    in_order l h a b =
        let across = meets.each a.other b.other a.value b.value (a.gap +ℤ b.gap) a.has_value b.has_value (Shows-then _ (omega (arith, ints)) a.shown b.shown) in
        omega (arith, ints, across, a.enough, b.enough)

    above_low : (low high : Option ℤ) → IsGreatest (IsAtLeast facts valued node) low → IsValueBetween used low high value → (c : ℤ) → IsAtLeast facts valued node c → c ≤ℤ value
    above_low None high is between c b = absurd (is c b)
    above_low (Some l) None is between c b = omega (arith, ints, is.1 c b, between.from)
    above_low (Some l) (Some h) is (inl between) c b = omega (arith, ints, is.1 c b, between.0.from)
    above_low (Some l) (Some h) is (inr between) c b = omega (arith, ints, is.1 c b, between.1)

    below_high : (low high : Option ℤ) → IsGreatest (IsAtLeast facts valued node) low → IsLeast (IsAtMost facts valued node) high → IsValueBetween used low high value → (c : ℤ) → IsAtMost facts valued node c → value ≤ℤ c
    below_high low None low_is is between c b = absurd (is c b)
    below_high None (Some h) low_is is between c b = omega (arith, ints, is.1 c b, between.upto)
    below_high (Some l) (Some h) low_is is (inl between) c b = omega (arith, ints, is.1 c b, between.1)
    below_high (Some l) (Some h) low_is is (inr between) c b = omega (arith, ints, is.1 c b, between.1, in_order l h low_is.0 is.0)

    module _ (is : IsValue facts valued used node value) where
      -- the new value against an old one, and against itself
      meets_low : (x : ℕ) (v k : ℤ) → Contains valued (x, v) → Shows facts x k node → (v +ℤ k) ≤ℤ value
      meets_low x v k h s = above_low is.low is.high is.low_is is.between (v +ℤ k) (record { other = x; value = v; gap = k; has_value = h; shown = s; enough = omega (arith, ints) })

      meets_high : (y : ℕ) (w k : ℤ) → Contains valued (y, w) → Shows facts node k y → (value +ℤ k) ≤ℤ w
      meets_high y w k h s =
          let below = below_high is.low is.high is.low_is is.high_is is.between (w +ℤ neg_ℤ k) (record { other = y; value = w; gap = k; has_value = h; shown = s; enough = omega (arith, ints) }) in
          omega (arith, ints, below)

      one_of : (x : ℕ) (v : ℤ) → ◌≡◌ {A = ℕ × ℤ} (node, value) (x, v) → (node ≡ x) × (value ≡ v)
      one_of x v e = (ap (λ (p : ℕ × ℤ). p.0) e, ap (λ (p : ℕ × ℤ). p.1) e)

      each_more : (x y : ℕ) (v w k : ℤ) → Contains (valued ++ (node, value) ∷ []) (x, v) → Contains (valued ++ (node, value) ∷ []) (y, w) → Shows facts x k y → (v +ℤ k) ≤ℤ w
      each_more x y v w k h g s =
          ⊎_elim
          (λ (old : Contains valued (x, v)).
          ⊎_elim
          (λ (old_too : Contains valued (y, w)). meets.each x y v w k old old_too s)
          (λ (e : (node, value) ≡ (y, w)). let new = one_of y w e in omega (arith, ints, new.1, meets_low x v k old (subst (λ n. Shows facts x k n) (sym new.0) s)))
          (Contains-push_cases valued (node, value) (y, w) g))
          (λ (e : (node, value) ≡ (x, v)).
          let here = one_of x v e in
          let t : Shows facts node k y = subst (λ n. Shows facts n k y) (sym here.0) s in
          ⊎_elim
          (λ (old : Contains valued (y, w)). omega (arith, ints, here.1, meets_high y w k old t))
          (λ (f : (node, value) ≡ (y, w)). let new = one_of y w f in omega (arith, ints, here.1, new.1, no_rise node k (subst (λ n. Shows facts node k n) (sym new.0) t)))
          (Contains-push_cases valued (node, value) (y, w) g))
          (Contains-push_cases valued (node, value) (x, v) h)

      pub Meets-more : Meets facts (valued ++ (node, value) ∷ [])
      Meets-more = record { each = each_more }

-- pairs of two lists with one more element each
zip-push : (xs : List ℕ) (vs : List ℤ) (x : ℕ) (v : ℤ) → length vs ≡ length xs → zip (xs ++ x ∷ []) (vs ++ v ∷ []) ≡ zip xs vs ++ (x, v) ∷ []
zip-push [] [] x v e = refl
zip-push [] (w ∷ vs) x v e = absurd (omega arith)
zip-push (y ∷ xs) [] x v e = absurd (omega arith)
zip-push (y ∷ xs) (w ∷ vs) x v e = ap (λ ps. (y, w) ∷ ps) (zip-push xs vs x v (omega arith))

pub with_zero-push : (xs : List ℕ) (vs : List ℤ) (x : ℕ) (v : ℤ) → length vs ≡ length xs → with_zero (xs ++ x ∷ []) (vs ++ v ∷ []) ≡ with_zero xs vs ++ (x, v) ∷ []
with_zero-push xs vs x v e = ap (λ ps. (0, pos 0) ∷ ps) (zip-push xs vs x v e)

pub IsImage-none : (facts : List Difference) (used : List ℤ) → IsImage facts used [] []
IsImage-none facts used = record { len = refl; each = λ i h. absurd (omega (arith, h)) }

same_value : (facts : List Difference) (used : List ℤ) (xs ys : List ℕ) (vs ws : List ℤ) (x y : ℕ) (v w : ℤ) → xs ≡ ys → vs ≡ ws → x ≡ y → v ≡ w → IsValue facts (with_zero xs vs) (used ++ vs) x v → IsValue facts (with_zero ys ws) (used ++ ws) y w
same_value facts used xs ys vs ws x y v w p q r s h =
    subst (λ b. IsValue facts (with_zero ys ws) (used ++ ws) y b) s
    (subst (λ n. IsValue facts (with_zero ys ws) (used ++ ws) n v) r
    (subst (λ bs. IsValue facts (with_zero ys bs) (used ++ bs) x v) q
    (subst (λ ns. IsValue facts (with_zero ns vs) (used ++ vs) x v) p h)))

pub IsImage-more : (facts : List Difference) (used : List ℤ) (xs : List ℕ) (vs : List ℤ) (x : ℕ) (v : ℤ) → IsImage facts used xs vs → IsValue facts (with_zero xs vs) (used ++ vs) x v → IsImage facts used (xs ++ x ∷ []) (vs ++ v ∷ [])
IsImage-more facts used xs vs x v image is = record {
  len = omega (arith, image.len, length_push xs x, length_push vs v);
  each = λ i h.
      ⊎_elim
      (λ (old : i < length xs).
      same_value facts used _ _ _ _ _ _ _ _
      (sym (take-append-le i xs _ (omega arith))) (sym (take-append-le i vs _ (omega (arith, image.len))))
      (sym (get_or_append_left xs _ 0 i old)) (sym (get_or_append_left vs _ (pos 0) i (omega (arith, image.len))))
      (image.each i old))
      (λ (past : length xs ≤ i).
      let last : length xs ≡ i = omega (arith, length_push xs x) in
      let last_value : length vs ≡ i = omega (arith, image.len) in
      same_value facts used _ _ _ _ _ _ _ _
      (sym (take_at xs _ i last)) (sym (take_at vs _ i last_value))
      (sym (get_or_push xs x 0 i last)) (sym (get_or_push vs v (pos 0) i last_value))
      is)
      (cases_lt i (length xs));
}

-- what the loop of `solve` keeps once the first nodes have values
pub record IsSoFar (facts : List Difference) (used : List ℤ) (nodes : List ℕ) (valued : List (ℕ × ℤ)) (taken values : List ℤ) : Type 0 where
  pub valued_is : valued ≡ with_zero nodes values
  pub taken_is : taken ≡ used ++ values
  pub image : IsImage facts used nodes values
  pub meets : Meets facts (with_zero nodes values)

pub IsSoFar-none : (facts : List Difference) (used : List ℤ) → ¬ (IsAbsurd facts) → IsSoFar facts used [] ((0, pos 0) ∷ []) used []
IsSoFar-none facts used consistent = record { valued_is = refl; taken_is = sym (append-nil used); image = IsImage-none facts used; meets = Meets-zero facts consistent }

pub IsSoFar-more : (facts : List Difference) (used : List ℤ) (nodes : List ℕ) (valued : List (ℕ × ℤ)) (taken values : List ℤ) (node : ℕ) (value : ℤ) → ¬ (IsAbsurd facts) → IsSoFar facts used nodes valued taken values → IsValue facts valued taken node value → IsSoFar facts used (nodes ++ node ∷ []) (valued ++ (node, value) ∷ []) (taken ++ value ∷ []) (values ++ value ∷ [])
IsSoFar-more facts used nodes valued taken values node value consistent so_far is =
    let pushed = with_zero-push nodes values node value so_far.image.len in
    let placed : IsValue facts (with_zero nodes values) (used ++ values) node value =
    subst (λ ts. IsValue facts (with_zero nodes values) ts node value) so_far.taken_is
    (subst (λ ps. IsValue facts ps taken node value) so_far.valued_is is) in
    record {
      valued_is = ap (λ ps. ps ++ (node, value) ∷ []) so_far.valued_is ∙ sym pushed;
      taken_is = ap (λ ts. ts ++ value ∷ []) so_far.taken_is ∙ append_assoc used values (value ∷ []);
      image = IsImage-more facts used nodes values node value so_far.image placed;
      meets = subst (Meets facts) (sym pushed) (Meets-more facts consistent (with_zero nodes values) so_far.meets (used ++ values) node value placed);
    }
