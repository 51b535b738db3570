-- Places of the trace in order, and that the first match is found.
use Rattle.std.proofs.Common.{◌≡◌, ◌⊎◌, inl, inr, ℕ, ◌+◌, ◌<◌, ◌≤◌, List, [], ◌∷◌, length, refl, ap₂, subst, sym, arith}
use Rattle.std.proofs.lemmas.Bool.{cases_order}
use Rattle.std.proofs.lemmas.Option.{slice_get_within}
use Rattle.std.specs.List.{AllZip}
use Rattle.std.specs.Prelude.{Option, Some, slice_get}
use Rattle.ba_model.specs.declared.policy.Context.{Context}
use Rattle.ba_model.specs.declared.value.Value.{Value}
use Rattle.ba_comply.specs.declared.trace.TraceEntry.{TraceEntry}
use Rattle.ba_kernel.specs.declared.problem.Problem.{Problem}
use Rattle.ba_kernel.specs.declared.problem.ProblemEntry.{ProblemEntry}
use Rattle.ba_match.proofs.SearchLemmas.{at_place}
use Rattle.ba_match.specs.Matching.{IsBefore, IsUpTo}
use Rattle.ba_match.specs.Searches.{IsFirstRest, IsNoneBefore, IsRest}
use Rattle.ba_template.specs.Found.{StandsAt, with_values}
use Rattle.ba_template.specs.declared.found.Match.{Match}

-- two numbers
compared : (x y : ℕ) → (x < y) ⊎ ((x ≡ y) ⊎ (y < x))
compared x y = elim (cases_order x y) [
  | inl same ↦ inr (inl same)
  | inr other ↦ elim other [
    | inl less ↦ inl less
    | inr greater ↦ inr (inr greater)
  ]
]

-- two places
pub placed : (a b : ℕ × ℕ) → IsBefore a b ⊎ ((a ≡ b) ⊎ IsBefore b a)
placed a b = elim (compared a.0 b.0) [
  | inl less ↦ inl (inl less)
  | inr other ↦ elim other [
    | inl same ↦ elim (compared a.1 b.1) [
      | inl less ↦ inl (inr (same, less))
      | inr rest ↦ elim rest [
        | inl equal ↦ inr (inl (ap₂ (λ x y. let it : ℕ × ℕ = (x, y) in it) same equal))
        | inr greater ↦ inr (inr (inr (sym same, greater)))
      ]
    ]
    | inr greater ↦ inr (inr (inl greater))
  ]
]

module _ (p : Problem) (c : Context) (trace : List TraceEntry) (entry : ProblemEntry) (rest : List ProblemEntry) (bound : List (Option Value)) where
  abbrev IsRestHere : Match → Type 0
  IsRestHere = IsRest p c trace (entry ∷ rest) bound

  abbrev NoneBefore : ℕ × ℕ → Type 0
  NoneBefore = IsNoneBefore p c trace (entry ∷ rest) bound

  -- a rest has a first place, where the entry stands
  module _ (m : Match) (is : IsRestHere m) where
    first_stands : (a : ℕ × ℕ) (others : List (ℕ × ℕ)) → m.places ≡ a ∷ others → StandsAt (with_values c m.values) trace entry a
    first_stands a others e =
        let all : AllZip (StandsAt (with_values c m.values) trace) (entry ∷ rest) (a ∷ others) =
        subst (AllZip (StandsAt (with_values c m.values) trace) (entry ∷ rest)) e is.places in
        all.0

    has_first : (a : ℕ × ℕ) × (others : List (ℕ × ℕ)) × (m.places ≡ a ∷ others)
    has_first = by_places m.places refl
      where
        by_places : (places : List (ℕ × ℕ)) → m.places ≡ places → (a : ℕ × ℕ) × (others : List (ℕ × ℕ)) × (m.places ≡ a ∷ others)
        by_places [] e = absurd (subst (AllZip (StandsAt (with_values c m.values) trace) (entry ∷ rest)) e is.places)
        by_places (a ∷ others) e = (a, others, e)

  pub none_at_start : NoneBefore (0, 0)
  none_at_start = record {
    none = λ m a others is e before. elim before [
      | inl less ↦ absurd (omega arith)
      | inr same ↦ let low = same.1 in absurd (omega arith)
    ];
  }

  -- none at the place itself either
  pub none_next : (t r : ℕ) → NoneBefore (t, r) → ((m : Match) (others : List (ℕ × ℕ)) → IsRestHere m → m.places ≡ (t, r) ∷ others → ⊥) → NoneBefore (t, r + 1)
  none_next t r h here = record { none = none }
    where
      none : (m : Match) (a : ℕ × ℕ) (others : List (ℕ × ℕ)) → IsRestHere m → m.places ≡ a ∷ others → IsBefore a (t, r + 1) → ⊥
      none m a others is e before = elim (placed a (t, r)) [
        | inl less ↦ h.none m a others is e less
        | inr other ↦ elim other [
          | inl same ↦ here m others is (subst (λ x. m.places ≡ x ∷ others) same e)
          | inr greater ↦ not_between a before greater
        ]
      ]
        where
          not_between : (a : ℕ × ℕ) → IsBefore a (t, r + 1) → IsBefore (t, r) a → ⊥
          not_between a before greater = elim before [
            | inl x ↦ elim greater [
              | inl y ↦ omega arith
              | inr y ↦ let s = y.0 in omega arith
            ]
            | inr x ↦ let s = x.0 in let l = x.1 in elim greater [
              | inl y ↦ omega arith
              | inr y ↦ let k = y.1 in omega arith
            ]
          ]

  -- none at any row of an entry of the trace
  pub none_in_entry : (t r : ℕ) (told : TraceEntry) → slice_get trace t ≡ Some told → length told.rows ≤ r → NoneBefore (t, r) → NoneBefore (t + 1, 0)
  none_in_entry t r told told_is past h = record { none = none }
    where
      none : (m : Match) (a : ℕ × ℕ) (others : List (ℕ × ℕ)) → IsRestHere m → m.places ≡ a ∷ others → IsBefore a (t + 1, 0) → ⊥
      none m a others is e before = elim before [
        | inl x ↦ elim (compared a.0 t) [
          | inl less ↦ h.none m a others is e (inl less)
          | inr other ↦ elim other [
            | inl same ↦
                let s = first_stands m is a others e in
                let first : slice_get trace t ≡ Some s.of = subst (λ k. slice_get trace k ≡ Some s.of) same s.entry_is in
                let equal : s.of ≡ told = cc (first, told_is) in
                let row : slice_get told.rows a.1 ≡ Some s.row = subst (λ (it : TraceEntry). slice_get it.rows a.1 ≡ Some s.row) equal s.row_is in
                let below = slice_get_within told.rows a.1 s.row row in
                h.none m a others is e (inr (same, let low : a.1 < r = omega arith in low))
            | inr greater ↦ omega arith
          ]
        ]
        | inr x ↦ let low = x.1 in omega arith
      ]

  -- an entry of the trace where there is none
  pub none_skipped : (t : ℕ) → NoneBefore (t, 0) → ((m : Match) (r : ℕ) (others : List (ℕ × ℕ)) → IsRestHere m → m.places ≡ (t, r) ∷ others → ⊥) → NoneBefore (t + 1, 0)
  none_skipped t h never = record { none = none }
    where
      none : (m : Match) (a : ℕ × ℕ) (others : List (ℕ × ℕ)) → IsRestHere m → m.places ≡ a ∷ others → IsBefore a (t + 1, 0) → ⊥
      none m a others is e before = elim before [
        | inl x ↦ elim (compared a.0 t) [
          | inl less ↦ h.none m a others is e (inl less)
          | inr other ↦ elim other [
            | inl same ↦ never m a.1 others is (subst (λ k. m.places ≡ (k, a.1) ∷ others) same e)
            | inr greater ↦ omega arith
          ]
        ]
        | inr x ↦ let low = x.1 in omega arith
      ]

  -- none at all
  pub none_at_all : (t : ℕ) → length trace ≤ t → NoneBefore (t, 0) → (m : Match) → IsRestHere m → ⊥
  none_at_all t past h m is =
      let first = has_first m is in
      let s = first_stands m is first.0 first.1 first.2 in
      let below = slice_get_within trace (first.0).0 s.of s.entry_is in
      h.none m first.0 first.1 is first.2 (inl (let low : (first.0).0 < t = omega arith in low))

  -- the first rest at a place before which there is none is the first of all
  pub first_here : (t r : ℕ) (m : Match) → NoneBefore (t, r) → IsRestHere (at_place (t, r) m) →
      ((other : Match) (others : List (ℕ × ℕ)) → IsRestHere other → other.places ≡ (t, r) ∷ others → IsUpTo m.places others) →
      IsFirstRest p c trace (entry ∷ rest) bound (at_place (t, r) m)
  first_here t r m h is least = record { is_rest = is; first = first }
    where
      first : (other : Match) → IsRestHere other → IsUpTo ((t, r) ∷ m.places) other.places
      first other it =
          let found = has_first other it in
          subst (IsUpTo ((t, r) ∷ m.places)) (sym found.2) (elim (placed found.0 (t, r)) [
            | inl less ↦ absurd (h.none other found.0 found.1 it found.2 less)
            | inr rest_of ↦ elim rest_of [
              | inl same ↦ inr (sym same, least other found.1 it (subst (λ x. other.places ≡ x ∷ found.1) same found.2))
              | inr greater ↦ inl greater
            ]
          ])
