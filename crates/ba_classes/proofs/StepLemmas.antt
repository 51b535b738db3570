-- One more fact: the cells that are raised by the chains through it reach just what is shown then.
use Rattle.std.proofs.Common.{◌≡◌, ℕ, ℤ, pos, neg_ℤ, ◌+ℤ◌, ◌≤ℤ◌, ◌<ℤ◌, ◌↔◌, List, [], ◌∷◌, ◌++◌, Contains, Bool, true, false, ◌||◌, IsTrue, nat_eq, refl, sym, ◌∙◌, subst, ◌⊎◌, inl, inr, ⊎_elim, arith}
use Rattle.std.proofs.lemmas.Bool.{false≢true, or_cases, or_left, or_right}
use Rattle.std.proofs.lemmas.Int.{ints, by_lt_z}
use Rattle.std.proofs.lemmas.List.Elements.{Contains-push, Contains-push_cases}
use Rattle.ba_classes.specs.Best.{Reaches, better, joined, or_nothing}
use Rattle.ba_classes.specs.Chains.{Chain, none, first, Shows, IsAbsurd}
use Rattle.ba_classes.specs.Closure.{reach, through, IsExact}
use Rattle.ba_classes.specs.declared.best.Best.{Best}
use Rattle.ba_classes.specs.declared.best.Best.TheVariants.{Absent, Sum, Unbounded}
use Rattle.ba_classes.specs.declared.order.Difference.{Difference}
use Rattle.ba_classes.proofs.BestLemmas.{reaches_left, reaches_right, reaches_either, reaches_joined, parts_of}
use Rattle.ba_classes.proofs.ChainLemmas.{weaken, Chain-more, Shows-none, Shows-then, Shows-more, Shows-fact, any_number}

-- what is reached is reached of any lesser number
pub reaches_less : (b : Best) (j k : ℤ) → j ≤ℤ k → Reaches b k → Reaches b j
reaches_less Absent j k e h = absurd h
reaches_less (Sum s) j k e h = omega (arith, ints)
reaches_less Unbounded j k e h = tt

raised_left : (one : Bool) (c e : Best) (k : ℤ) → Reaches (or_nothing one c) k → Reaches (or_nothing one (better c e)) k
raised_left true c e k h = ⊎_elim (λ g. reaches_left (better c e) _ k (reaches_left c e k g)) (λ g. reaches_right (better c e) _ k g) (reaches_either c _ k h)
raised_left false c e k h = reaches_left c e k h

raised_right : (one : Bool) (c e : Best) (k : ℤ) → Reaches e k → Reaches (or_nothing one (better c e)) k
raised_right true c e k h = reaches_left (better c e) _ k (reaches_right c e k h)
raised_right false c e k h = reaches_right c e k h

raised_either : (one : Bool) (c e : Best) (k : ℤ) → Reaches (or_nothing one (better c e)) k → Reaches (or_nothing one c) k ⊎ Reaches e k
raised_either true c e k h =
    ⊎_elim (λ g. ⊎_elim (λ i. inl (reaches_left c _ k i)) (λ i. inr i) (reaches_either c e k g)) (λ g. inl (reaches_right c _ k g)) (reaches_either (better c e) _ k h)
raised_either false c e k h = reaches_either c e k h

module _ (facts : List Difference) (cell : ℕ → ℕ → Best) (exact : IsExact facts cell) (fact : Difference) (gains : Bool) (gains_is : IsTrue gains ↔ Reaches (reach cell fact.high fact.low) (pos 1 +ℤ neg_ℤ fact.gap)) where
  abbrev after : List Difference
  after = facts ++ fact ∷ []

  abbrev by_fact : Best
  by_fact = through gains fact.gap

  -- a way back that doesn't gain
  no_gain : (a : ℤ) → gains ≡ false → Shows facts fact.high a fact.low → (fact.gap +ℤ a) ≤ℤ pos 0
  no_gain a off s =
      by_lt_z {P = (fact.gap +ℤ a) ≤ℤ pos 0} (pos 0) (fact.gap +ℤ a)
      (λ gain. absurd (false≢true (sym off ∙ gains_is.1 (reaches_less (reach cell fact.high fact.low) _ a (omega (arith, ints)) (exact.complete _ _ a s)))))
      (λ loss. loss)

  -- the chains through the fact: one to it, one that begins and ends with it, one from it
  pub record Passes (x : ℕ) (k : ℤ) (y : ℕ) : Type 0 where
    pub before : ℤ
    pub between : ℤ
    pub beyond : ℤ
    pub comes : Shows facts x before fact.low
    pub crosses : Reaches by_fact between
    pub goes : Shows facts fact.high beyond y
    pub enough : k ≤ℤ ((before +ℤ between) +ℤ beyond)

  starts_with_fact : {k : ℤ} {y : ℕ} → Shows facts fact.high k y ⊎ Passes fact.high k y → Passes fact.low (fact.gap +ℤ k) y
  starts_with_fact {k} {y} (inl s) = record {
    before = pos 0;
    between = fact.gap;
    beyond = k;
    comes = Shows-none fact.low;
    crosses = by_fact_once gains;
    goes = s;
    enough = omega (arith, ints);
  }
    where
      by_fact_once : (r : Bool) → Reaches (through r fact.gap) fact.gap
      by_fact_once true = tt
      by_fact_once false = omega (arith, ints)
  starts_with_fact {k} {y} (inr p) = record {
    before = pos 0;
    between = (fact.gap +ℤ p.before) +ℤ p.between;
    beyond = p.beyond;
    comes = Shows-none fact.low;
    crosses = again gains refl p.crosses;
    goes = p.goes;
    enough = omega (arith, ints, p.enough);
  }
    where
      again : (r : Bool) → gains ≡ r → Reaches (through r fact.gap) p.between → Reaches (through r fact.gap) ((fact.gap +ℤ p.before) +ℤ p.between)
      again true e c = tt
      again false e c = omega (arith, ints, no_gain p.before e p.comes)

  starts_with_old : {k : ℤ} {y : ℕ} (f : Difference) → Contains facts f → Shows facts f.high k y ⊎ Passes f.high k y → Shows facts f.low (f.gap +ℤ k) y ⊎ Passes f.low (f.gap +ℤ k) y
  starts_with_old {k} f h (inl s) = inl (Shows-then _ (omega (arith, ints)) (Shows-fact f h) s)
  starts_with_old {k} f h (inr p) = inr record {
    before = f.gap +ℤ p.before;
    between = p.between;
    beyond = p.beyond;
    comes = Shows-then _ (omega (arith, ints)) (Shows-fact f h) p.comes;
    crosses = p.crosses;
    goes = p.goes;
    enough = omega (arith, ints, p.enough);
  }

  -- a chain of the facts and the new one is a chain of the old facts, or passes through the new one
  pub passes_or_not : {x y : ℕ} {k : ℤ} → Chain after x k y → Shows facts x k y ⊎ Passes x k y
  passes_or_not {x} none = inl (Shows-none x)
  passes_or_not {y = y} (first f {k = k} h c) =
      ⊎_elim
      (λ old. starts_with_old f old (passes_or_not c))
      (λ new. inr (subst (λ g. Passes g.low (g.gap +ℤ k) y) new (starts_with_fact (subst (λ g. Shows facts g.high k y ⊎ Passes g.high k y) (sym new) (passes_or_not c)))))
      (Contains-push_cases facts fact f h)

  pub shown_before : {x y : ℕ} {k : ℤ} → Shows after x k y → Shows facts x k y ⊎ Passes x k y
  shown_before {k = k} s =
      ⊎_elim
      (λ t. inl (weaken k s.enough t))
      (λ p. inr record { before = p.before; between = p.between; beyond = p.beyond; comes = p.comes; crosses = p.crosses; goes = p.goes; enough = omega (arith, ints, s.enough, p.enough) })
      (passes_or_not s.chain)

  the_fact : Shows after fact.low fact.gap fact.high
  the_fact = Shows-fact fact (Contains-push facts fact)

  circle : gains ≡ true → Shows after fact.low (pos 1) fact.low
  circle on = Shows-then _ (omega (arith, ints)) the_fact (Shows-more (fact ∷ []) (exact.sound _ _ _ (gains_is.0 on)))

  crossed : (k : ℤ) (r : Bool) → gains ≡ r → Reaches (through r fact.gap) k → Shows after fact.low k fact.high
  crossed k true on h = Shows-then {j = k +ℤ neg_ℤ fact.gap} k (omega (arith, ints)) (any_number _ (circle on)) the_fact
  crossed k false off h = weaken k (omega (arith, ints)) the_fact

  pub passed : {x y : ℕ} {k : ℤ} → Passes x k y → Shows after x k y
  passed {k = k} p =
      Shows-then k p.enough
      (Shows-then (p.before +ℤ p.between) (omega (arith, ints)) (Shows-more (fact ∷ []) p.comes) (crossed p.between gains refl p.crosses))
      (Shows-more (fact ∷ []) p.goes)

  -- what the raised cell is raised by
  abbrev pub raised_by : ℕ → ℕ → Best
  raised_by x y = joined (joined (reach cell x fact.low) by_fact) (reach cell fact.high y)

  passes_from : (x y : ℕ) (k : ℤ) → Reaches (raised_by x y) k → Passes x k y
  passes_from x y k h =
      let outer = parts_of (joined (reach cell x fact.low) by_fact) (reach cell fact.high y) k h in
      let inner = parts_of (reach cell x fact.low) by_fact outer.first outer.reached_first in
      record {
        before = inner.first;
        between = inner.second;
        beyond = outer.second;
        comes = exact.sound _ _ _ inner.reached_first;
        crosses = inner.reached_second;
        goes = exact.sound _ _ _ outer.reached_second;
        enough = omega (arith, ints, outer.enough, inner.enough);
      }

  raised_from : (x y : ℕ) (k : ℤ) → Passes x k y → Reaches (raised_by x y) k
  raised_from x y k p =
      reaches_joined (joined (reach cell x fact.low) by_fact) (reach cell fact.high y) (p.before +ℤ p.between) p.beyond k
      (reaches_joined (reach cell x fact.low) by_fact p.before p.between (p.before +ℤ p.between) (exact.complete _ _ _ p.comes) p.crosses (omega (arith, ints)))
      (exact.complete _ _ _ p.goes) p.enough

  module _ (new : ℕ → ℕ → Best) (raised : (x y : ℕ) → new x y ≡ better (cell x y) (raised_by x y)) where
    pub IsExact-raised : IsExact after new
    IsExact-raised = record {
      sound = λ x y k h.
          ⊎_elim
          (λ old. Shows-more (fact ∷ []) (exact.sound x y k old))
          (λ through_it. passed (passes_from x y k through_it))
          (raised_either (nat_eq x y) (cell x y) (raised_by x y) k (subst (λ b. Reaches (or_nothing (nat_eq x y) b) k) (raised x y) h));
      complete = λ x y k s.
          subst (λ b. Reaches (or_nothing (nat_eq x y) b) k) (sym (raised x y))
          (⊎_elim
          (λ old. raised_left (nat_eq x y) (cell x y) (raised_by x y) k (exact.complete x y k old))
          (λ p. raised_right (nat_eq x y) (cell x y) (raised_by x y) k (raised_from x y k p))
          (shown_before s));
    }

  -- a circle through the fact gains only where its way back does
  circle_gains : {x : ℕ} {k : ℤ} → pos 0 <ℤ k → (p : Passes x k x) → (r : Bool) → gains ≡ r → Reaches (through r fact.gap) p.between → r ≡ true
  circle_gains up p true e c = refl
  circle_gains up p false e c =
      let back = Shows-then (p.beyond +ℤ p.before) (omega (arith, ints)) p.goes p.comes in
      absurd (omega (arith, ints, no_gain _ e back, p.enough))

  pub IsAbsurd-after : (flag : Bool) → IsTrue flag ↔ IsAbsurd facts → IsTrue (flag || gains) ↔ IsAbsurd after
  IsAbsurd-after flag flag_is = (
    λ h. ⊎_elim
        (λ before. let a = flag_is.0 before in record { node = a.node; sum = a.sum; above = a.above; chain = Chain-more (fact ∷ []) a.chain })
        (λ now. let s = circle now in record { node = fact.low; sum = s.sum; above = omega (arith, ints, s.enough); chain = s.chain })
        (or_cases flag gains h),
    λ a. ⊎_elim
        (λ s. or_left flag gains (flag_is.1 (record { node = a.node; sum = s.sum; above = omega (arith, ints, a.above, s.enough); chain = s.chain })))
        (λ p. or_right flag gains (circle_gains a.above p gains refl p.crosses))
        (passes_or_not a.chain),
  )
