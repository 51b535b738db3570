-- The best sum of chains is that of a chain which visits no node twice, so it isn't large.
use Rattle.std.proofs.Common.{◌≡◌, ℕ, ◌+◌, ◌*◌, ◌^◌, ◌<◌, ℤ, pos, neg_ℤ, ◌+ℤ◌, ◌≤ℤ◌, ◌<ℤ◌, List, [], ◌∷◌, length, All, Contains, Bool, true, false, eqb, refl, sym, subst, ◌⊎◌, inl, inr, ⊎_elim, arith}
use Rattle.std.specs.List.{list_any, AllByRecursion, IsDistinct}
use Rattle.std.proofs.lemmas.Bool.{or_cases, or_parts, eqb-true}
use Rattle.std.proofs.lemmas.Int.{ints, by_lt_z}
use Rattle.std.proofs.lemmas.Nat.{mul-le}
use Rattle.std.proofs.lemmas.List.Elements.{All-contains}
use Rattle.std.proofs.lemmas.Map.Keys.{IsDistinct-cons}
use Rattle.std.proofs.lemmas.Map.Steps.{length-le_from_distinct_below}
use Rattle.ba_classes.specs.Best.{Reaches, IsWithin}
use Rattle.ba_classes.specs.Chains.{Chain, none, first, Shows, IsAbsurd}
use Rattle.ba_classes.specs.Closure.{reach, IsExact, IsInRange}
use Rattle.ba_classes.specs.declared.best.Best.{Best}
use Rattle.ba_classes.specs.declared.best.Best.TheVariants.{Absent, Sum, Unbounded}
use Rattle.ba_classes.specs.declared.order.Difference.{Difference}
use Rattle.ba_classes.proofs.ChainLemmas.{then}

-- a chain that visits the listed nodes, none of them twice
data Simple (facts : List Difference) : List ℕ → ℕ → ℤ → ℕ → Type 0 where
  stay : {x : ℕ} → Simple facts (x ∷ []) x (pos 0) x
  go : (f : Difference) {visited : List ℕ} {k : ℤ} {y : ℕ} → Contains facts f → list_any (eqb f.low) visited ≡ false → Simple facts visited f.high k y → Simple facts (f.low ∷ visited) f.low (f.gap +ℤ k) y

chain_of : {facts : List Difference} {visited : List ℕ} {x y : ℕ} {k : ℤ} → Simple facts visited x k y → Chain facts x k y
chain_of stay = none
chain_of (go f h lacks s) = first f h (chain_of s)

-- the rest of a chain from a node that it visits, and the way to that node
record Suffix (facts : List Difference) (y : ℕ) (k : ℤ) (x z : ℕ) : Type 0 where
  way : ℤ
  rest : ℤ
  visited : List ℕ
  reaching : Chain facts y way x
  simple : Simple facts visited x rest z
  sum : (way +ℤ rest) ≡ k

whole : {facts : List Difference} {visited : List ℕ} {y z : ℕ} {k : ℤ} (x : ℕ) → x ≡ y → Simple facts visited y k z → Suffix facts y k x z
whole {facts} {visited} {y} {z} {k} x e s = subst (λ n. Suffix facts y k n z) (sym e) (record { way = pos 0; rest = k; visited = visited; reaching = none; simple = s; sum = omega (arith, ints) })

suffix : {facts : List Difference} {visited : List ℕ} {y z : ℕ} {k : ℤ} (x : ℕ) → Simple facts visited y k z → list_any (eqb x) visited ≡ true → Suffix facts y k x z
suffix x stay e = whole x (eqb-true x _ (⊎_elim (λ h. h) (λ h. absurd (cc)) (or_cases _ _ e))) stay
suffix x (go f h lacks s) e =
    ⊎_elim
    (λ here. whole x (eqb-true x f.low here) (go f h lacks s))
    (λ later. let t = suffix x s later in record { way = f.gap +ℤ t.way; rest = t.rest; visited = t.visited; reaching = first f h t.reaching; simple = t.simple; sum = omega (arith, ints, t.sum) })
    (or_cases (eqb x f.low) _ e)

-- a chain that visits no node twice and sums to at least k
record Direct (facts : List Difference) (x : ℕ) (k : ℤ) (y : ℕ) : Type 0 where
  visited : List ℕ
  sum : ℤ
  enough : k ≤ℤ sum
  simple : Simple facts visited x sum y

-- a chain that sums to more than k, and a circle that gains
record Exceeds (facts : List Difference) (x : ℕ) (k : ℤ) (y : ℕ) : Type 0 where
  sum : ℤ
  more : k <ℤ sum
  chain : Chain facts x sum y
  circle : IsAbsurd facts

-- a fact before a direct chain: a circle that doesn't gain is left out, one that gains is gone round twice
before_direct : {facts : List Difference} {y : ℕ} {k : ℤ} (f : Difference) → Contains facts f → (d : Direct facts f.high k y) → (visits : Bool) → list_any (eqb f.low) d.visited ≡ visits → Direct facts f.low (f.gap +ℤ k) y ⊎ Exceeds facts f.low (f.gap +ℤ k) y
before_direct f h d false e = inl record { visited = f.low ∷ d.visited; sum = f.gap +ℤ d.sum; enough = omega (arith, ints, d.enough); simple = go f h e d.simple }
before_direct {facts} {y} {k} f h d true e =
    let s = suffix f.low d.simple e in
    by_lt_z {P = Direct facts f.low (f.gap +ℤ k) y ⊎ Exceeds facts f.low (f.gap +ℤ k) y} (pos 0) (f.gap +ℤ s.way)
    (λ gains. inr record { sum = f.gap +ℤ (s.way +ℤ (f.gap +ℤ d.sum)); more = omega (arith, ints, d.enough); chain = first f h (then s.reaching (first f h (chain_of d.simple))); circle = record { node = f.low; sum = f.gap +ℤ s.way; above = gains; chain = first f h s.reaching } })
    (λ loses. inl record { visited = s.visited; sum = s.rest; enough = omega (arith, ints, d.enough, s.sum); simple = s.simple })

direct : {facts : List Difference} {x y : ℕ} {k : ℤ} → Chain facts x k y → Direct facts x k y ⊎ Exceeds facts x k y
direct {facts} {x} none = inl record { visited = x ∷ []; sum = pos 0; enough = omega (arith, ints); simple = stay }
direct (first f h c) =
    ⊎_elim
    (λ d. before_direct f h d _ refl)
    (λ o. inr record { sum = f.gap +ℤ o.sum; more = omega (arith, ints, o.more); chain = first f h o.chain; circle = o.circle })
    (direct c)

apart_from_all : (x : ℕ) (ys : List ℕ) → list_any (eqb x) ys ≡ false → AllByRecursion (λ y. eqb x y ≡ false) ys
apart_from_all x [] e = tt
apart_from_all x (y ∷ ys) e = let parts = or_parts (eqb x y) (list_any (eqb x) ys) e in (parts.0, apart_from_all x ys parts.1)

distinct : {facts : List Difference} {visited : List ℕ} {x y : ℕ} {k : ℤ} → Simple facts visited x k y → IsDistinct eqb visited
unfolding IsDistinct
distinct (stay {x = x}) = IsDistinct-cons eqb x [] tt tt
distinct (go f {visited = visited} h lacks s) = IsDistinct-cons eqb f.low visited (apart_from_all f.low visited lacks) (distinct s)

module _ (m : ℕ) (facts : List Difference) (in_range : All (IsInRange m) facts) where
  fact_in_range : (f : Difference) → Contains facts f → IsInRange m f
  fact_in_range f h = All-contains (IsInRange m) facts f in_range h

  visits_in_range : {visited : List ℕ} {x y : ℕ} {k : ℤ} → y < 2 ^ 32 → Simple facts visited x k y → (q : ℕ) → list_any (eqb q) visited ≡ true → q < 2 ^ 32
  visits_in_range end (stay {x = x}) q e = ⊎_elim (λ here. let same : q ≡ x = eqb-true q x here in omega arith) (λ h. absurd (cc)) (or_cases _ _ e)
  visits_in_range end (go f h lacks s) q e =
      ⊎_elim
      (λ here. let same : q ≡ f.low = eqb-true q f.low here in omega (arith, (fact_in_range f h).low))
      (visits_in_range end s q)
      (or_cases (eqb q f.low) _ e)

  -- each node adds at most the greatest gap
  sum_within : {visited : List ℕ} {x y : ℕ} {k : ℤ} → Simple facts visited x k y → (neg_ℤ (pos (m * length visited)) ≤ℤ k) × (k ≤ℤ pos (m * length visited))
  sum_within (stay {x = x}) = (omega (arith, ints), omega (arith, ints))
  sum_within (go f {visited = visited} h lacks s) =
      let r = fact_in_range f h in
      let more : m * length (f.low ∷ visited) ≡ m + m * length visited = omega arith in
      (omega (arith, ints, sum_within s, r.above, r.below, more), omega (arith, ints, sum_within s, r.above, r.below, more))

  direct_within : {visited : List ℕ} {x y : ℕ} {k : ℤ} → y < 2 ^ 32 → Simple facts visited x k y → (neg_ℤ (pos (m * 2 ^ 32)) ≤ℤ k) × (k ≤ℤ pos (m * 2 ^ 32))
  direct_within {visited} end s =
      let few = mul-le m (length visited) m (2 ^ 32) (omega arith) (length-le_from_distinct_below visited (2 ^ 32) (distinct s) (visits_in_range end s)) in
      (omega (arith, ints, few, sum_within s), omega (arith, ints, few, sum_within s))

  -- a best that reaches what is shown
  module _ (best : Best) (x y : ℕ) (end : y < 2 ^ 32) (sound : (k : ℤ) → Reaches best k → Shows facts x k y) (complete : (k : ℤ) → Shows facts x k y → Reaches best k) where
    no_more : (s j : ℤ) → best ≡ Sum s → Chain facts x j y → j ≤ℤ s
    no_more s j is c = subst (λ b. Reaches b j) is (complete j (record { sum = j; enough = omega (arith, ints); chain = c }))

    attained : (s : ℤ) → best ≡ Sum s → Shows facts x s y
    attained s is = sound s (subst (λ b. Reaches b s) (sym is) (omega (arith, ints)))

    sum_of_direct : (s j : ℤ) → best ≡ Sum s → s ≤ℤ j → Direct facts x j y ⊎ Exceeds facts x j y → (neg_ℤ (pos (m * 2 ^ 32)) ≤ℤ s) × (s ≤ℤ pos (m * 2 ^ 32))
    sum_of_direct s j is up (inl d) =
        let most = no_more s d.sum is (chain_of d.simple) in
        (omega (arith, ints, most, up, d.enough, direct_within end d.simple), omega (arith, ints, most, up, d.enough, direct_within end d.simple))
    sum_of_direct s j is up (inr o) = absurd (omega (arith, ints, no_more s o.sum is o.chain, up, o.more))

    within : (b : Best) → best ≡ b → IsWithin (m * 2 ^ 32) b
    within Absent is = tt
    within (Sum s) is = let shown = attained s is in sum_of_direct s shown.sum is shown.enough (direct shown.chain)
    within Unbounded is = tt

    large : Direct facts x (pos (m * 2 ^ 32 + 1)) y ⊎ Exceeds facts x (pos (m * 2 ^ 32 + 1)) y → IsAbsurd facts
    large (inl d) = absurd (omega (arith, ints, d.enough, direct_within end d.simple))
    large (inr o) = o.circle

    unbounded : best ≡ Unbounded → Direct facts x (pos (m * 2 ^ 32 + 1)) y ⊎ Exceeds facts x (pos (m * 2 ^ 32 + 1)) y
    unbounded is =
        let shown = sound (pos (m * 2 ^ 32 + 1)) (subst (λ b. Reaches b (pos (m * 2 ^ 32 + 1))) (sym is) tt) in
        ⊎_elim
        (λ d. inl record { visited = d.visited; sum = d.sum; enough = omega (arith, ints, d.enough, shown.enough); simple = d.simple })
        (λ o. inr record { sum = o.sum; more = omega (arith, ints, o.more, shown.enough); chain = o.chain; circle = o.circle })
        (direct shown.chain)

    -- no best sum is large
    pub best_within : IsWithin (m * 2 ^ 32) best
    best_within = within best refl

    -- chains of any sum between two nodes go through a circle that gains
    pub unbounded_is_absurd : best ≡ Unbounded → IsAbsurd facts
    unbounded_is_absurd is = large (unbounded is)

pub reach_within : (facts : List Difference) → All (IsInRange (2 ^ 66)) facts → (cell : ℕ → ℕ → Best) → IsExact facts cell → (x y : ℕ) → y < 2 ^ 32 → IsWithin (2 ^ 98) (reach cell x y)
reach_within facts in_range cell exact x y end = best_within (2 ^ 66) facts in_range (reach cell x y) x y end (exact.sound x y) (exact.complete x y)
