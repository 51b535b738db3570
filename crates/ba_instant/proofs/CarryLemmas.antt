-- What is known of terms, where something else is known of the terms that stand for them.
use Rattle.std.proofs.Common.{◌≡◌, pos, ℤ, ◌+ℤ◌, ◌-ℤ◌, inl, inr, sym, subst, arith}
use Rattle.std.proofs.lemmas.Int.{ints}
use Rattle.ba_model.specs.declared.query.Op.{Op}
use Rattle.ba_model.specs.declared.query.Op.TheVariants.{Eq, Ne, Lt, Le, IsNull, NotNull}
use Rattle.ba_model.specs.declared.value.Value.{Value}
use Rattle.ba_model.specs.declared.value.Value.TheVariants.{Null, Int}
use Rattle.ba_facts.proofs.ChainLemmas.{one_rise, then}
use Rattle.ba_facts.specs.Known.{Chain, DifferentLiterals, Equated, Known, Learned, NotNullTerm, OneClass, Rise, ShownGap, ShownNotNull, ShownNull}
use Rattle.ba_facts.specs.Known.{equated, itself, turned, joined, left, right, within, at_most, less, number, none, first}
use Rattle.ba_facts.specs.Shown.{Absurd, AreTheTwo, EitherNull, IsAtMost, IsEqual, IsLess, IsUnequal, NeitherNull, RecordedApart, RefutesOf, ShowsOf, TheSame}
use Rattle.ba_facts.specs.Shown as shown
use Rattle.ba_facts.specs.declared.term.Term.{Term}
use Rattle.ba_facts.specs.declared.term.Term.TheVariants.{Val}

-- what k says of terms, l says of those that stand for them; a literal stands for itself
pub record Carries (k l : Known) (stands : Term → Term) : Type 0 where
  pub values : (v : Value) → stands (Val v) ≡ Val v
  pub one : (a b : Term) → Equated k a b → OneClass l (stands a) (stands b)
  pub not_null : (a : Term) → NotNullTerm k a → ShownNotNull l (stands a)
  pub at_most : (a b : Term) → Learned k Le a b → ShownGap l (stands a) (pos 0) (stands b)
  pub less : (a b : Term) → Learned k Lt a b → ShownGap l (stands a) (pos 1) (stands b)
  pub apart : (a b : Term) → Learned k Ne a b → RecordedApart l (stands a) (stands b)

-- ---- gaps, one after another

pub gap_then : {k : Known} {a b c : Term} {n m : ℤ} → ShownGap k a n b → ShownGap k b m c → ShownGap k a (n +ℤ m) c
gap_then g h = record { sum = g.sum +ℤ h.sum; enough = omega (arith, ints, g.enough, h.enough); chain = then g.chain h.chain }

gap_as : {k : Known} {a b : Term} {n : ℤ} (m : ℤ) → n ≡ m → ShownGap k a n b → ShownGap k a m b
gap_as {k} {a} {b} m e g = subst (λ n. ShownGap k a n b) e g

pub gap_of : {k : Known} {a b : Term} {n : ℤ} → Chain k a n b → ShownGap k a n b
gap_of {n = n} c = record { sum = n; enough = omega (arith, ints); chain = c }

pub gap_within : {k : Known} {a b : Term} → OneClass k a b → ShownGap k a (pos 0) b
gap_within h = gap_of (one_rise (within h))

-- ---- the same

same_up : {k : Known} {a b : Term} → TheSame k a b → ShownGap k a (pos 0) b
same_up (inl h) = gap_within h
same_up (inr h) = h.0

same_down : {k : Known} {a b : Term} → TheSame k a b → ShownGap k b (pos 0) a
same_down (inl h) = gap_within (turned h)
same_down (inr h) = h.1

both_gaps : {k : Known} {a b c : Term} → TheSame k a b → TheSame k b c → TheSame k a c
both_gaps s t =
    inr (gap_as (pos 0) (omega (arith, ints)) (gap_then (same_up s) (same_up t)), gap_as (pos 0) (omega (arith, ints)) (gap_then (same_down t) (same_down s)))

pub same_then : {k : Known} {a b c : Term} → TheSame k a b → TheSame k b c → TheSame k a c
same_then (inl s) (inl t) = inl (joined s t)
same_then (inl s) (inr t) = both_gaps (inl s) (inr t)
same_then (inr s) t = both_gaps (inr s) t

same_turned : {k : Known} {a b : Term} → TheSame k a b → TheSame k b a
same_turned (inl h) = inl (turned h)
same_turned (inr h) = inr (h.1, h.0)

-- of two that were recorded apart as what is the same as a and b, `=` is shown where a and b are the same
equal_apart : {k : Known} {a b : Term} (x y : Term) → Learned k Ne x y → AreTheTwo k x y a b → TheSame k a b → IsEqual k x y
equal_apart {k} {a} {b} x y h two same = record {
  not_null = record {
    left = record { other = x; class = itself; not_null = left h tt };
    right = record { other = y; class = itself; not_null = right h tt };
  };
  same = elim two as (λ _. TheSame k x y) [
    | inl t ↦ same_then (same_turned t.0) (same_then same t.1)
    | inr t ↦ same_then (same_turned t.1) (same_then (same_turned same) t.0)
  ];
}

module _ (k l : Known) (stands : Term → Term) (carries : Carries k l stands) where
  pub one_class : {a b : Term} → OneClass k a b → OneClass l (stands a) (stands b)
  one_class (equated h) = carries.one _ _ h
  one_class itself = itself
  one_class (turned h) = turned (one_class h)
  one_class (joined h g) = joined (one_class h) (one_class g)

  pub not_null : {a : Term} → ShownNotNull k a → ShownNotNull l (stands a)
  not_null h = let g = carries.not_null h.other h.not_null in record { other = g.other; class = joined (one_class h.class) g.class; not_null = g.not_null }

  of_value : {a : Term} (v : Value) → OneClass k a (Val v) → OneClass l (stands a) (Val v)
  of_value {a} v h = subst (OneClass l (stands a)) (carries.values v) (one_class h)

  pub null : {a : Term} → ShownNull k a → ShownNull l (stands a)
  null h = of_value Null h

  differ : {a b : Term} → DifferentLiterals k a b → DifferentLiterals l (stands a) (stands b)
  differ h = record { left = h.left; right = h.right; left_in = of_value h.left h.left_in; right_in = of_value h.right h.right_in; differ = h.differ }

  -- ---- the order

  numbers : (n m : ℤ) → ShownGap l (stands (Val (Int n))) (m -ℤ n) (stands (Val (Int m)))
  numbers n m =
      subst (λ a. ShownGap l a (m -ℤ n) (stands (Val (Int m)))) (sym (carries.values (Int n)))
      (subst (λ b. ShownGap l (Val (Int n)) (m -ℤ n) b) (sym (carries.values (Int m)))
      (gap_of (one_rise number)))

  rise : {a b : Term} {n : ℤ} → Rise k a n b → ShownGap l (stands a) n (stands b)
  rise (within h) = gap_within (one_class h)
  rise (at_most h) = carries.at_most _ _ h
  rise (less h) = carries.less _ _ h
  rise (number {n = n} {m = m}) = numbers n m

  pub chain : {a b : Term} {n : ℤ} → Chain k a n b → ShownGap l (stands a) n (stands b)
  chain none = gap_within itself
  chain (first r c) = gap_then (rise r) (chain c)

  gap : {a b : Term} {n : ℤ} → ShownGap k a n b → ShownGap l (stands a) n (stands b)
  gap g = let h = chain g.chain in record { sum = h.sum; enough = omega (arith, ints, g.enough, h.enough); chain = h.chain }

  pub the_same : {a b : Term} → TheSame k a b → TheSame l (stands a) (stands b)
  the_same (inl h) = inl (one_class h)
  the_same (inr h) = inr (gap h.0, gap h.1)

  -- ---- atoms

  pub neither_null : {a b : Term} → NeitherNull k a b → NeitherNull l (stands a) (stands b)
  neither_null h = record { left = not_null h.left; right = not_null h.right }

  either_null : {a b : Term} → EitherNull k a b → EitherNull l (stands a) (stands b)
  either_null (inl h) = inl (null h)
  either_null (inr h) = inr (null h)

  pub equal : {a b : Term} → IsEqual k a b → IsEqual l (stands a) (stands b)
  equal h = record { not_null = neither_null h.not_null; same = the_same h.same }

  most : {a b : Term} → IsAtMost k a b → IsAtMost l (stands a) (stands b)
  most h = record { not_null = neither_null h.not_null; gap = gap h.gap }

  lower : {a b : Term} → IsLess k a b → IsLess l (stands a) (stands b)
  lower h = record { not_null = neither_null h.not_null; gap = gap h.gap }

  sides : {x y u v a b : Term} → AreTheTwo l u v (stands x) (stands y) → AreTheTwo k x y a b → AreTheTwo l u v (stands a) (stands b)
  sides (inl s) (inl t) = inl (same_then (the_same t.0) s.0, same_then (the_same t.1) s.1)
  sides (inl s) (inr t) = inr (same_then (the_same t.0) s.1, same_then (the_same t.1) s.0)
  sides (inr s) (inl t) = inr (same_then (the_same t.0) s.0, same_then (the_same t.1) s.1)
  sides (inr s) (inr t) = inl (same_then (the_same t.0) s.1, same_then (the_same t.1) s.0)

  recorded : {a b : Term} → RecordedApart k a b → RecordedApart l (stands a) (stands b)
  recorded h = let g = carries.apart h.x h.y h.learned in record { x = g.x; y = g.y; learned = g.learned; sides = sides g.sides h.sides }

  unequal : {a b : Term} → IsUnequal k a b → IsUnequal l (stands a) (stands b)
  unequal (shown.literals h) = shown.literals (differ h)
  unequal (shown.less h) = shown.less (lower h)
  unequal (shown.greater h) = shown.greater (lower h)
  unequal (shown.apart h) = shown.apart (recorded h)
  unequal (shown.null h) = shown.null (either_null h)

  pub shows : (op : Op) (a b : Term) → ShowsOf k op a b → ShowsOf l op (stands a) (stands b)
  shows Eq a b h = equal h
  shows Ne a b h = (neither_null h.0, unequal h.1)
  shows Lt a b h = lower h
  shows Le a b h = most h
  shows IsNull a b h = null h
  shows NotNull a b h = not_null h

  pub refutes : (op : Op) (a b : Term) → RefutesOf k op a b → RefutesOf l op (stands a) (stands b)
  refutes Eq a b h = unequal h
  refutes Ne a b (inl h) = inl (equal h)
  refutes Ne a b (inr h) = inr (either_null h)
  refutes Lt a b (inl h) = inl (most h)
  refutes Lt a b (inr h) = inr (either_null h)
  refutes Le a b (inl h) = inl (lower h)
  refutes Le a b (inr h) = inr (either_null h)
  refutes IsNull a b h = not_null h
  refutes NotNull a b h = null h

  -- ---- what can't be true

  pub absurd_back : Absurd k → Absurd l
  absurd_back (shown.literals h) = shown.literals (differ h)
  absurd_back (shown.null n h) = shown.null (null n) (not_null h)
  absurd_back (shown.apart {a = a} {b = b} h e) =
      let g = carries.apart a b h in shown.apart g.learned (equal_apart g.x g.y g.learned g.sides (the_same e.same))
  absurd_back (shown.rising {n = n} above c) = let g = chain c in shown.rising (omega (arith, ints, above, g.enough)) g.chain
