-- Facts whose tied nodes are written over node 0 show the same.
use Rattle.std.proofs.Common.{◌≡◌, ℕ, ◌^◌, ◌<◌, ℤ, pos, neg_ℤ, ◌+ℤ◌, ◌-ℤ◌, ◌≤ℤ◌, List, [], ◌∷◌, map, length, get_or, All, Contains, Option, Some, None, refl, sym, ap, ◌∙◌, subst, ⊎_elim, arith}
use Rattle.std.proofs.lemmas.Int.{ints}
use Rattle.std.proofs.lemmas.List.{length-map, get_or-map}
use Rattle.std.proofs.lemmas.List.Elements.{All-map, Contains-append_right}
use Rattle.ba_classes.specs.Chains.{Chain, none, first, Shows, IsAbsurd}
use Rattle.ba_classes.specs.Closure.{IsInRange}
use Rattle.ba_classes.specs.Tied.{AreSmall, IsTied, base_of, offset_of, based}
use Rattle.ba_classes.specs.declared.order.Difference.{Difference}
use Rattle.ba_classes.proofs.ChainLemmas.{summing, weaken, Shows-none, Shows-then, Shows-fact}
use Rattle.ba_classes.proofs.UnusedLemmas.{Contains-cases}

pub same_fact : (a b c d : ℕ) (g h : ℤ) → a ≡ b → g ≡ h → c ≡ d → ◌≡◌ {A = Difference} (record { low = a; gap = g; high = c }) (record { low = b; gap = h; high = d })
same_fact a b c d g h e f i = cc

-- what is mapped is in the mapped list, and what is in it was mapped
Contains-map : {X Y : Type 0} (f : X → Y) (xs : List X) (x : X) → Contains xs x → Contains (map f xs) (f x)
Contains-map f xs x (k, h, e) = let long : length (map f xs) ≡ length xs = length-map xs f in (k, omega (arith, h, long), get_or-map f xs k x (f x) h ∙ ap f e)

record Source {X Y : Type 0} (f : X → Y) (xs : List X) (y : Y) : Type 0 where
  source : X
  has : Contains xs source
  is : f source ≡ y

source_of : {X Y : Type 0} (f : X → Y) (xs : List X) (y : Y) → Contains (map f xs) y → Source f xs y
source_of f [] y (k, h, e) = absurd (omega arith)
source_of f (x ∷ xs) y h =
    ⊎_elim
    (λ (here : f x ≡ y). record { source = x; has = (0, omega arith, refl); is = here })
    (λ (later : Contains (map f xs) y). let s = source_of f xs y later in record { source = s.source; has = Contains-append_right (x ∷ []) xs s.source s.has; is = s.is })
    (Contains-cases y (f x) (map f xs) h)

module _ (facts : List Difference) (value : ℕ → Option ℤ) (are_tied : (n : ℕ) (v : ℤ) → value n ≡ Some v → IsTied facts n v) where
  abbrev pub base : ℕ → ℕ
  base n = base_of (value n) n

  abbrev pub offset : ℕ → ℤ
  offset n = offset_of (value n)

  abbrev pub plain : List Difference
  plain = map (based value) facts

  -- a node is its base and the offset
  at_least : (n : ℕ) (o : Option ℤ) → value n ≡ o → Shows facts (base_of o n) (offset_of o) n
  at_least n None e = Shows-none n
  at_least n (Some v) e = (are_tied n v e).at_least

  at_most : (n : ℕ) (o : Option ℤ) → value n ≡ o → Shows facts n (neg_ℤ (offset_of o)) (base_of o n)
  at_most n None e = Shows-none n
  at_most n (Some v) e = (are_tied n v e).at_most

  -- a chain over the bases
  chain_based : {x y : ℕ} {k : ℤ} → Chain facts x k y → Chain plain (base x) ((offset x +ℤ k) -ℤ offset y) (base y)
  chain_based none = summing _ (omega (arith, ints)) none
  chain_based (first f h c) = summing _ (omega (arith, ints)) (first (based value f) (Contains-map (based value) facts f h) (chain_based c))

  pub shown_based : {x y : ℕ} {k : ℤ} → Shows facts x k y → Shows plain (base x) ((offset x +ℤ k) -ℤ offset y) (base y)
  shown_based s = record { sum = _; enough = omega (arith, ints, s.enough); chain = chain_based s.chain }

  -- what is shown over the bases
  based_is_shown : (f : Difference) → Contains facts f → Shows facts (base f.low) ((offset f.low +ℤ f.gap) -ℤ offset f.high) (base f.high)
  based_is_shown f h =
      Shows-then _ (omega (arith, ints)) (Shows-then (offset f.low +ℤ f.gap) (omega (arith, ints)) (at_least f.low (value f.low) refl) (Shows-fact f h)) (at_most f.high (value f.high) refl)

  chain_back : {a b : ℕ} {k : ℤ} → Chain plain a k b → Shows facts a k b
  chain_back {a} none = Shows-none a
  chain_back {b = b} (first g {k = k} h c) =
      let s = source_of (based value) facts g h in
      subst (λ (d : Difference). Shows facts d.low (d.gap +ℤ k) b) s.is
      (Shows-then _ (omega (arith, ints)) (based_is_shown s.source s.has) (subst (λ (d : Difference). Shows facts d.high k b) (sym s.is) (chain_back c)))

  pub shown_back : {a b : ℕ} {k : ℤ} → Shows plain a k b → Shows facts a k b
  shown_back {k = k} s = weaken k s.enough (chain_back s.chain)

  pub shown_unbased : {x y : ℕ} {k : ℤ} → Shows plain (base x) ((offset x +ℤ k) -ℤ offset y) (base y) → Shows facts x k y
  shown_unbased {x} {y} {k} s =
      Shows-then k (omega (arith, ints))
      (Shows-then (k -ℤ offset y) (omega (arith, ints)) (at_most x (value x) refl) (shown_back s))
      (at_least y (value y) refl)

  pub absurd_based : IsAbsurd facts → IsAbsurd plain
  absurd_based a = record { node = base a.node; sum = (offset a.node +ℤ a.sum) -ℤ offset a.node; above = omega (arith, ints, a.above); chain = chain_based a.chain }

  pub absurd_back : IsAbsurd plain → IsAbsurd facts
  absurd_back a = let s = chain_back a.chain in record { node = a.node; sum = s.sum; above = omega (arith, ints, a.above, s.enough); chain = s.chain }

  -- no chain of one fact or more comes to a tied node or goes from one
  not_a_base : (n : ℕ) (o : Option ℤ) → value n ≡ o → (x : ℕ) (v : ℤ) → value x ≡ Some v → base_of o n ≡ x → ⊥
  not_a_base n None e x v t same = absurd (let both : Some v ≡ None = sym t ∙ ap value (sym same) ∙ e in cc)
  not_a_base n (Some w) e x v t same = (are_tied x v t).other (sym same)

  -- between nodes that aren't tied the facts show the same
  pub shown_plain : {x y : ℕ} {k : ℤ} → value x ≡ None → value y ≡ None → Shows facts x k y → Shows plain x k y
  shown_plain {x} {y} {k} e g s =
      subst (λ n. Shows plain n k y) (ap (λ o. base_of o x) e)
      (subst (λ n. Shows plain (base x) k n) (ap (λ o. base_of o y) g)
      (weaken k (omega (arith, ints, ap offset_of e, ap offset_of g)) (shown_based s)))

  from_tied_chain : {x y : ℕ} {k : ℤ} (v : ℤ) → value x ≡ Some v → Chain plain x k y → (x ≡ y) × (k ≤ℤ pos 0)
  from_tied_chain v t none = (refl, omega (arith, ints))
  from_tied_chain v t (first g h c) =
      let s = source_of (based value) facts g h in
      absurd (not_a_base s.source.low (value s.source.low) refl g.low v t (ap (λ (d : Difference). d.low) s.is))

  to_tied_chain : {x y : ℕ} {k : ℤ} (v : ℤ) → value y ≡ Some v → Chain plain x k y → (x ≡ y) × (k ≤ℤ pos 0)
  to_tied_chain v t none = (refl, omega (arith, ints))
  to_tied_chain {y = y} v t (first g h c) =
      let s = source_of (based value) facts g h in
      absurd (not_a_base s.source.high (value s.source.high) refl y v t (ap (λ (d : Difference). d.high) s.is ∙ (to_tied_chain v t c).0))

  pub from_tied : {x y : ℕ} {k : ℤ} (v : ℤ) → value x ≡ Some v → Shows plain x k y → (x ≡ y) × (k ≤ℤ pos 0)
  from_tied v t s = let e = from_tied_chain v t s.chain in (e.0, omega (arith, ints, e.1, s.enough))

  pub to_tied : {x y : ℕ} {k : ℤ} (v : ℤ) → value y ≡ Some v → Shows plain x k y → (x ≡ y) × (k ≤ℤ pos 0)
  to_tied v t s = let e = to_tied_chain v t s.chain in (e.0, omega (arith, ints, e.1, s.enough))

-- the facts over the bases are in range
module _ (value : ℕ → Option ℤ) (small : AreSmall value) where
  offset_above : (n : ℕ) (o : Option ℤ) → value n ≡ o → neg_ℤ (pos (2 ^ 64)) ≤ℤ offset_of o
  offset_above n None e = omega (arith, ints)
  offset_above n (Some v) e = small.above n v e

  offset_below : (n : ℕ) (o : Option ℤ) → value n ≡ o → offset_of o ≤ℤ pos (2 ^ 64)
  offset_below n None e = omega (arith, ints)
  offset_below n (Some v) e = small.below n v e

  base_below : (n : ℕ) (o : Option ℤ) → n < 2 ^ 32 → base_of o n < 2 ^ 32
  base_below n None h = h
  base_below n (Some v) h = omega arith

  pub based_in_range : (f : Difference) → IsInRange (2 ^ 65) f → IsInRange (2 ^ 66) (based value f)
  based_in_range f r = record {
    low = base_below f.low (value f.low) r.low;
    high = base_below f.high (value f.high) r.high;
    above = omega (arith, ints, r.above, offset_above f.low (value f.low) refl, offset_below f.high (value f.high) refl);
    below = omega (arith, ints, r.below, offset_below f.low (value f.low) refl, offset_above f.high (value f.high) refl);
  }

  pub all_in_range : (facts : List Difference) → All (IsInRange (2 ^ 65)) facts → All (IsInRange (2 ^ 66)) (map (based value) facts)
  all_in_range facts in_range = All-map (IsInRange (2 ^ 66)) (based value) facts (λ k d h. based_in_range (get_or facts k d) (in_range k d h))
