-- By how much one term is shown to be less than another, at most.
use Rattle.std.proofs.Common.{◌≡◌, ◌≢◌, ℕ, ℤ, pos, ◌+ℤ◌, ◌-ℤ◌, ◌≤ℤ◌, ◌<ℤ◌, ◌↔◌, ◌⊎◌, inl, inr, IsTrue, false, List, Option, None, Some, refl, sym, ap, ◌∙◌, subst, arith}
use Rattle.std.proofs.lemmas.Int.{by_lt_z, ints}
use Rattle.std.proofs.lemmas.Option.{none-some, same_Some}
use Rattle.ba_classes.specs.Chains.{IsAbsurd, Shows}
use Rattle.ba_classes.specs.Image.{IsGreatest}
use Rattle.ba_classes.specs.Merged.{Merged}
use Rattle.ba_classes.specs.declared.order.Difference.{Difference}
use Rattle.ba_facts.specs.Known.{Known, OneClass, ShownGap, turned}
use Rattle.ba_facts.specs.Knowing.{IsBound, IsRising}
use Rattle.ba_facts.specs.Webs.{AnyRise, IsWhole, PlaceOf, RisesBy}
use Rattle.ba_facts.specs.declared.marks.Mark.{Mark}
use Rattle.ba_facts.specs.declared.marks.Place.{Place}
use Rattle.ba_facts.specs.declared.term.Term.{Term}
use Rattle.ba_facts.proofs.ChainLemmas.{onward}
use Rattle.ba_facts.proofs.OrderLemmas.{any_gap, facts_from_rising, place_lies, reached, rises_to, rising_from_facts}

-- what holds of the same numbers has the same greatest
pub greatest_as : {P Q : ℤ → Type 0} (r : Option ℤ) → ((n : ℤ) → P n → Q n) → ((n : ℤ) → Q n → P n) → IsGreatest P r → IsGreatest Q r
greatest_as None there back h = λ n q. h n (back n q)
greatest_as (Some m) there back h = (there m h.0, λ n q. h.1 n (back n q))

-- ---- places

pub most_some : (facts : List Difference) (p q : Place) (gap : ℤ) → IsGreatest (λ k. Shows facts p.node k q.node) (Some gap) →
    IsGreatest (λ n. RisesBy facts p n q) (Some ((gap -ℤ p.offset) +ℤ q.offset))
most_some facts p q gap h = (
  record { shown = subst (λ k. Shows facts p.node k q.node) (omega (arith, ints)) h.0 },
  λ n s. let up = h.1 ((n +ℤ p.offset) -ℤ q.offset) s.shown in omega (arith, ints, up),
)

pub most_none : (facts : List Difference) (p q : Place) → IsGreatest (λ k. Shows facts p.node k q.node) None → IsGreatest (λ n. RisesBy facts p n q) None
most_none facts p q h = λ n s. h ((n +ℤ p.offset) -ℤ q.offset) s.shown

-- ---- terms with places

module _ (terms : List Term) (merges : List (ℕ × ℕ)) (marks : List Mark) (facts : List Difference) (a b : Term) where
  pub placed : (p q : Place) (r : Option ℤ) → ((s : Place) → (Some p ≡ Some s) ↔ PlaceOf terms merges marks a s) →
      ((s : Place) → (Some q ≡ Some s) ↔ PlaceOf terms merges marks b s) → IsGreatest (λ n. RisesBy facts p n q) r →
      IsGreatest (λ n. AnyRise terms merges marks facts a n b) r
  placed p q r low high h =
      greatest_as r (λ n s. record { from = p; to = q; low = (low p).0 refl; high = (high q).0 refl; rises = s })
      (λ n s.
      let from_is : p ≡ s.from = same_Some p s.from ((low s.from).1 s.low) in
      let to_is : q ≡ s.to = same_Some q s.to ((high s.to).1 s.high) in
      subst (λ u. RisesBy facts p n u) (sym to_is) (subst (λ t. RisesBy facts t n s.to) (sym from_is) s.rises))
      h

  pub no_low : ((s : Place) → (None ≡ Some s) ↔ PlaceOf terms merges marks a s) → IsGreatest (λ n. AnyRise terms merges marks facts a n b) None
  no_low low = λ n s. none-some s.from ((low s.from).1 s.low)

  pub no_high : ((s : Place) → (None ≡ Some s) ↔ PlaceOf terms merges marks b s) → IsGreatest (λ n. AnyRise terms merges marks facts a n b) None
  no_high high = λ n s. none-some s.to ((high s.to).1 s.high)

-- ---- what is known

module _ {k : Known} {terms : List Term} {classes : Merged} {marks : List Mark} {order : List Difference} {several : Rattle.std.proofs.Common.Bool}
    (w : IsWhole k terms classes marks order several) where
  pub absurd_rises : IsAbsurd order → IsRising k
  absurd_rises h = rising_from_facts k terms classes.merges marks order w.terms_are.naming.distinct w.terms_are.linked w.ordered h

  -- of one class no term is less than another, where nothing is absurd
  pub same_bound : (a b : Term) → (IsAbsurd order → ⊥) → OneClass k a b → IsBound k a b (Some (pos 0))
  same_bound a b calm one = (
    record { sum = pos 0; enough = omega (arith, ints); chain = onward Rattle.ba_facts.specs.Known.none one },
    λ n s.
        by_lt_z {P = n ≤ℤ pos 0} (pos 0) n
        (λ above. absurd (calm (facts_from_rising k terms classes.merges marks order w.terms_are.naming.distinct w.terms_are.linked w.ordered
        (record { term = a; sum = s.sum; above = omega (arith, ints, above, s.enough); chain = onward s.chain (turned one) }))))
        (λ low. low),
  )

  pub other_bound : (a b : Term) (r : Option ℤ) → (OneClass k a b → ⊥) → IsGreatest (λ n. AnyRise terms classes.merges marks order a n b) r → IsBound k a b r
  other_bound a b r apart h =
      greatest_as r
      (λ n s. any_gap k terms classes.merges marks order w.terms_are.naming.distinct w.terms_are.linked w.ordered a b n
      (place_lies k terms classes.merges marks order w.terms_are.naming.distinct w.terms_are.linked w.ordered several w.terms_are.marked) s)
      (λ n s. elim (reached k terms classes.merges marks order w.terms_are.naming.distinct w.terms_are.linked w.ordered s.chain) as
      (λ _. AnyRise terms classes.merges marks order a n b) [
        | inl one ↦ absurd (apart one.0)
        | inr t ↦ record { from = t.from; to = t.to; low = t.low; high = t.high; rises = rises_to t.from t.to n s.enough t.rises }
      ])
      h
