-- The facts of a branch after more were added, and mappings to them.
use Rattle.std.proofs.Common.{◌≡◌, ℕ, ◌+◌, ◌<◌, ◌≤◌, ◌⊎◌, List, [], ◌∷◌, ◌++◌, inl, inr, length, map, max, refl, ap, ap₂, sym, ◌∙◌, subst, arith}
use Rattle.std.proofs.lemmas.Option.{get_or_from_slice_get, slice_get_within}
use Rattle.std.specs.Option.{option_map}
use Rattle.std.specs.Prelude.{Option, Some, slice_get, unwrap_or}
use Rattle.ba_facts.proofs.Elements.{get_append_old}
use Rattle.ba_facts.specs.Matches.{IsFactOf, IsMapping, round_of, terms_at}
use Rattle.ba_facts.specs.declared.branch.Branch.{Branch}
use Rattle.ba_facts.specs.declared.term.Fact.{Fact}
use Rattle.ba_facts.specs.declared.term.Side.{Side}
use Rattle.ba_facts.specs.declared.term.Term.{Term}
use Rattle.ba_instant.proofs.GrowthLemmas.{get_cases}
use Rattle.ba_instant.specs.Windows.{AreLate}

abbrev pub round_at : Branch → ℕ → ℕ
round_at b n = unwrap_or (option_map (λ (fact : Fact). fact.round) (slice_get b.facts n)) 0

pub round_is : (b : Branch) (n : ℕ) (f : Fact) → slice_get b.facts n ≡ Some f → round_at b n ≡ f.round
round_is b n f e = ap (λ (o : Option Fact). unwrap_or (option_map (λ (fact : Fact). fact.round) o) 0) e

module _ (b c : Branch) where
  -- each of the numbers has one fact in both
  abbrev pub AreKept : List ℕ → Type 0
  AreKept [] = Unit {0}
  AreKept (n ∷ facts) = (slice_get c.facts n ≡ slice_get b.facts n) × AreKept facts

  pub terms_kept : (n : ℕ) → slice_get c.facts n ≡ slice_get b.facts n → terms_at c n ≡ terms_at b n
  terms_kept n e = ap (λ (o : Option Fact). unwrap_or (option_map (λ (fact : Fact). fact.terms) o) []) e

  pub rows_kept : (facts : List ℕ) → AreKept facts → map (terms_at c) facts ≡ map (terms_at b) facts
  rows_kept [] h = refl
  rows_kept (n ∷ facts) h = ap₂ (λ (row : List Term) rows. row ∷ rows) (terms_kept n h.0) (rows_kept facts h.1)

  pub round_kept : (facts : List ℕ) → AreKept facts → round_of c facts ≡ round_of b facts
  round_kept [] h = refl
  round_kept (n ∷ facts) h = ap₂ max (ap (λ (o : Option Fact). unwrap_or (option_map (λ (fact : Fact). fact.round) o) 0) h.0) (round_kept facts h.1)

  module _ (more : List Fact) (facts_are : c.facts ≡ b.facts ++ more) where
    pub fact_kept : (n : ℕ) (f : Fact) → slice_get b.facts n ≡ Some f → slice_get c.facts n ≡ Some f
    fact_kept n f e = subst (λ fs. slice_get fs n ≡ Some f) (sym facts_are) (get_append_old b.facts more n f e)

    is_kept : (side : Side) (table n : ℕ) → IsFactOf b side table n → slice_get c.facts n ≡ slice_get b.facts n
    is_kept side table n h = fact_kept n h.fact h.there ∙ sym h.there

    pub fact_of_kept : (side : Side) (table n : ℕ) → IsFactOf b side table n → IsFactOf c side table n
    fact_of_kept side table n h = record { fact = h.fact; there = fact_kept n h.fact h.there; side_is = h.side_is; table_is = h.table_is }

    pub are_kept : (side : Side) (from facts : List ℕ) → IsMapping b side from facts → AreKept facts
    are_kept side [] [] h = tt
    are_kept side [] (n ∷ facts) h = absurd h
    are_kept side (table ∷ from) [] h = absurd h
    are_kept side (table ∷ from) (n ∷ facts) h = (is_kept side table n h.0, are_kept side from facts h.1)

    pub mapping_kept : (side : Side) (from facts : List ℕ) → IsMapping b side from facts → IsMapping c side from facts
    mapping_kept side [] [] h = tt
    mapping_kept side [] (n ∷ facts) h = absurd h
    mapping_kept side (table ∷ from) [] h = absurd h
    mapping_kept side (table ∷ from) (n ∷ facts) h = (fact_of_kept side table n h.0, mapping_kept side from facts h.1)

    -- ---- facts of rounds below those of the new ones

    module _ (bound : ℕ) (late : AreLate bound more) where
      not_new : (n : ℕ) (f : Fact) → f.round < bound → (slice_get b.facts n ≡ Some f) ⊎ ((m : ℕ) × (n ≡ length b.facts + m) × (slice_get more m ≡ Some f)) → slice_get b.facts n ≡ Some f
      not_new n f below (inl e) = e
      not_new n f below (inr h) =
          let inside = slice_get_within more h.0 f h.2 in
          let it = late h.0 f inside in
          let same = get_or_from_slice_get more h.0 f f h.2 in
          let high : bound ≤ f.round = subst (λ (x : Fact). bound ≤ x.round) same it in
          absurd (omega (arith, below, high))

      pub fact_before : (n : ℕ) (f : Fact) → slice_get c.facts n ≡ Some f → f.round < bound → slice_get b.facts n ≡ Some f
      fact_before n f e below = not_new n f below (get_cases b.facts more n f (subst (λ fs. slice_get fs n ≡ Some f) facts_are e))

      pub low_first : (n : ℕ) (facts : List ℕ) → round_of c (n ∷ facts) < bound → (round_at c n < bound) × (round_of c facts < bound)
      low_first n facts h = (omega (arith, h), omega (arith, h))

      fact_of_before : (side : Side) (table n : ℕ) → IsFactOf c side table n → round_at c n < bound → IsFactOf b side table n
      fact_of_before side table n h below =
          record {
            fact = h.fact;
            there = fact_before n h.fact h.there (subst (λ r. r < bound) (round_is c n h.fact h.there) below);
            side_is = h.side_is;
            table_is = h.table_is;
          }

      pub mapping_before : (side : Side) (from facts : List ℕ) → IsMapping c side from facts → round_of c facts < bound → IsMapping b side from facts
      mapping_before side [] [] h below = tt
      mapping_before side [] (n ∷ facts) h below = absurd h
      mapping_before side (table ∷ from) [] h below = absurd h
      mapping_before side (table ∷ from) (n ∷ facts) h below =
          let both = low_first n facts below in
          (fact_of_before side table n h.0 both.0, mapping_before side from facts h.1 both.1)
