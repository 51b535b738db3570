-- Classes where only equations were learned.
use Rattle.std.proofs.Common.{◌≡◌, ◌≢◌, ◌∙◌, ℤ, pos, ◌+ℤ◌, ◌-ℤ◌, ◌≤ℤ◌, ◌⊎◌, inl, inr, refl, sym, subst, ⊎_elim, arith}
use Rattle.std.proofs.lemmas.Bool.{cases_Bool, false≢true}
use Rattle.std.proofs.lemmas.Int.{ints}
use Rattle.std.proofs.lemmas.List.Elements.{All-contains}
use Rattle.std.specs.Ordering.{eq_by_cmp}
use Rattle.ba_facts.specs.Known.{Known, Chain, Learned, OneClass, Rise, ShownGap, at_most, first, itself, joined, less, none, number, turned, within}
use Rattle.ba_facts.specs.Shown.{TheSame, literals}
use Rattle.ba_facts.specs.declared.term.Term.{Term}
use Rattle.ba_facts.specs.declared.term.Term.TheVariants.{Val}
use Rattle.ba_model.specs.Order.{value_cmp}
use Rattle.ba_model.specs.OrderLaws.{value_decides}
use Rattle.ba_model.specs.declared.query.Op.{Op}
use Rattle.ba_model.specs.declared.query.Op.TheVariants.{Eq, Lt, Le}
use Rattle.ba_model.specs.declared.value.Value.{Value}
use Rattle.ba_model.specs.declared.value.Value.TheVariants.{Int}
use Rattle.ba_refute.specs.TermValues.{KnowsEquationsAlone, IsEquation}

-- equal or different
pub value_cases : (v w : Value) → (v ≡ w) ⊎ (v ≢ w)
value_cases v w =
    elim (cases_Bool (eq_by_cmp value_cmp v w)) as (λ _. (v ≡ w) ⊎ (v ≢ w)) [
      | inl same_one ↦ inl ((value_decides v w).0 same_one)
      | inr apart ↦ inr (λ e. false≢true (sym apart ∙ (value_decides v w).1 e))
    ]

module _ (k : Known) (are : KnowsEquationsAlone k) where
  pub learned_is : (op : Op) (a b : Term) → Learned k op a b → op ≡ Eq
  learned_is op a b h = All-contains IsEquation k.learned _ are.learned h

  -- a class has one literal at most
  pub one_literal : (a : Term) (v w : Value) → OneClass k a (Val v) → OneClass k a (Val w) → v ≡ w
  one_literal a v w h g =
      ⊎_elim
      (λ (e : v ≡ w). e)
      (λ (differ : v ≢ w). absurd (are.sound (literals {a = a} (record { left = v; right = w; left_in = h; right_in = g; differ = differ }))))
      (value_cases v w)

  -- ---- chains

  -- a chain is within a class, or from one whole number to another
  pub record IsBetween (a b : Term) (s : ℤ) : Type 0 where
    pub low : ℤ
    pub high : ℤ
    pub low_in : OneClass k a (Val (Int low))
    pub high_in : OneClass k b (Val (Int high))
    pub sum : s ≡ high -ℤ low

  abbrev pub IsFlat : Term → ℤ → Term → Type 0
  IsFlat a s b = (OneClass k a b × (s ≡ pos 0)) ⊎ IsBetween a b s

  rise_cases : {a b : Term} {n : ℤ} → Rise k a n b → IsFlat a n b
  rise_cases (within h) = inl (h, refl)
  rise_cases (at_most {a = a} {b = b} h) = let e : Le ≡ Eq = learned_is Le a b h in absurd cc
  rise_cases (less {a = a} {b = b} h) = let e : Lt ≡ Eq = learned_is Lt a b h in absurd cc
  rise_cases (number {n = n} {m = m}) = inr (record { low = n; high = m; low_in = itself; high_in = itself; sum = refl })

  module _ (a b c : Term) (n m : ℤ) where
    join_flat : IsFlat a n b → IsFlat b m c → IsFlat a (n +ℤ m) c
    join_flat (inl h) (inl g) = inl (joined h.0 g.0, omega (arith, ints, h.1, g.1))
    join_flat (inl h) (inr g) = inr (record { low = g.low; high = g.high; low_in = joined h.0 g.low_in; high_in = g.high_in; sum = omega (arith, ints, h.1, g.sum) })
    join_flat (inr h) (inl g) = inr (record { low = h.low; high = h.high; low_in = h.low_in; high_in = joined (turned g.0) h.high_in; sum = omega (arith, ints, h.sum, g.1) })
    join_flat (inr h) (inr g) =
        let e : Int h.high ≡ Int g.low = one_literal b (Int h.high) (Int g.low) h.high_in g.low_in in
        let d : h.high ≡ g.low = cc in
        inr (record { low = h.low; high = g.high; low_in = h.low_in; high_in = g.high_in; sum = omega (arith, ints, h.sum, g.sum, d) })

  pub chain_cases : {a b : Term} {s : ℤ} → Chain k a s b → IsFlat a s b
  chain_cases none = inl (itself, refl)
  chain_cases (first {a = a} {b = b} {c = c} {n = n} {m = m} rise rest) = join_flat a b c n m (rise_cases rise) (chain_cases rest)

  -- terms that are the same are of one class
  both_flat : (a b : Term) (s z : ℤ) → pos 0 ≤ℤ s → pos 0 ≤ℤ z → IsFlat a s b → IsFlat b z a → OneClass k a b
  both_flat a b s z up down (inl h) g = h.0
  both_flat a b s z up down (inr h) (inl g) = turned g.0
  both_flat a b s z up down (inr h) (inr g) =
      let p : Int h.high ≡ Int g.low = one_literal b (Int h.high) (Int g.low) h.high_in g.low_in in
      let q : Int h.low ≡ Int g.high = one_literal a (Int h.low) (Int g.high) h.low_in g.high_in in
      let p' : h.high ≡ g.low = cc in
      let q' : h.low ≡ g.high = cc in
      let e : h.high ≡ h.low = omega (arith, ints, h.sum, g.sum, up, down, p', q') in
      joined h.low_in (turned (subst (λ x. OneClass k b (Val (Int x))) e h.high_in))

  pub same_class : (a b : Term) → TheSame k a b → OneClass k a b
  same_class a b (inl h) = h
  same_class a b (inr (up, down)) = both_flat a b up.sum down.sum up.enough down.enough (chain_cases up.chain) (chain_cases down.chain)

  -- a gap to or from a class without a literal is within the class
  pub gap_to : (a b : Term) (g : ℤ) → ((v : Value) → OneClass k b (Val v) → ⊥) → ShownGap k a g b → OneClass k a b
  gap_to a b g free h = ⊎_elim (λ (it : OneClass k a b × (h.sum ≡ pos 0)). it.0) (λ (it : IsBetween a b h.sum). absurd (free (Int it.high) it.high_in)) (chain_cases h.chain)

  pub gap_from : (a b : Term) (g : ℤ) → ((v : Value) → OneClass k a (Val v) → ⊥) → ShownGap k a g b → OneClass k a b
  gap_from a b g free h = ⊎_elim (λ (it : OneClass k a b × (h.sum ≡ pos 0)). it.0) (λ (it : IsBetween a b h.sum). absurd (free (Int it.low) it.low_in)) (chain_cases h.chain)
