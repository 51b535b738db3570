-- A row of the trace for one entry, by what was tried there.
use Rattle.std.proofs.Common.{◌≡◌, Bool, true, false, ℕ, ◌+◌, ◌≤◌, List, [], ◌∷◌, length, sym, ap₂, subst}
use Rattle.std.proofs.lemmas.List.Elements.{All-weaker}
use Rattle.std.specs.List.{All, AllZip}
use Rattle.std.specs.Prelude.{IsTrue, Option, Some, None, slice_get}
use Rattle.ba_model.specs.declared.policy.Context.{Context}
use Rattle.ba_model.specs.declared.query.Atom.{Atom}
use Rattle.ba_model.specs.declared.value.Value.{Value}
use Rattle.ba_comply.specs.declared.trace.TraceEntry.{TraceEntry}
use Rattle.ba_facts.specs.Matches.{Under}
use Rattle.ba_kernel.specs.Problems.{HoldsOf}
use Rattle.ba_kernel.specs.declared.problem.Problem.{Problem}
use Rattle.ba_kernel.specs.declared.problem.ProblemEntry.{ProblemEntry}
use Rattle.ba_match.proofs.ConditionLemmas.{may}
use Rattle.ba_match.proofs.OrderLemmas.{first_here, none_in_entry, none_next, none_skipped}
use Rattle.ba_match.proofs.SearchLemmas.{BecomesQuery, BecomesRow, from_rest, into_rest, no_entry, no_row, stands_there, still_left}
use Rattle.ba_match.specs.Bindings.{IsNarrowed, Narrows}
use Rattle.ba_match.specs.Conditions.{MayHold}
use Rattle.ba_match.specs.Searches.{Finds, IsFirstRest, IsLeft, IsNoneBefore, IsRest}
use Rattle.ba_template.specs.Found.{StandsAt, with_values}
use Rattle.ba_template.specs.declared.found.Match.{Match}

module _ (p : Problem) (c : Context) (trace : List TraceEntry) (entry : ProblemEntry) (rest : List ProblemEntry) (bound : List (Option Value)) (t : ℕ)
    (told : TraceEntry) (told_is : slice_get trace t ≡ Some told) (asks : Option (List (Option Value)))
    (tried : IsNarrowed (BecomesQuery entry told.query) bound asks) where
  abbrev NoneBefore : ℕ × ℕ → Type 0
  NoneBefore = IsNoneBefore p c trace (entry ∷ rest) bound

  -- the entry of the trace has another query
  pub entry_passed : asks ≡ None → NoneBefore (t, 0) → NoneBefore (t + 1, 0)
  entry_passed e none =
      none_skipped p c trace entry rest bound t none
      (no_entry p c trace entry rest bound t told told_is (subst (IsNarrowed (BecomesQuery entry told.query) bound) e tried))

  -- with its query some atom of the condition is known to be false
  pub entry_hopeless : (asked : List (Option Value)) → asks ≡ Some asked → (atoms : List Atom) (r : Bool) → atoms ≡ p.assumed →
      (All (MayHold c asked) atoms → IsTrue r) → r ≡ false → NoneBefore (t, 0) → NoneBefore (t + 1, 0)
  entry_hopeless asked is atoms r are tells f none = none_skipped p c trace entry rest bound t none never
    where
      narrows : Narrows (BecomesQuery entry told.query) bound asked true
      narrows = subst (IsNarrowed (BecomesQuery entry told.query) bound) is tried

      never : (m : Match) (k : ℕ) (others : List (ℕ × ℕ)) → IsRest p c trace (entry ∷ rest) bound m → m.places ≡ (t, k) ∷ others → ⊥
      never m k others it places =
          let all : AllZip (StandsAt (with_values c m.values) trace) (entry ∷ rest) ((t, k) ∷ others) =
          subst (AllZip (StandsAt (with_values c m.values) trace) (entry ∷ rest)) places it.places in
          let one = narrows.complete m.values it.extends (stands_there p c trace entry rest bound t told told_is m.values k all.0) in
          let met : All (MayHold c asked) p.assumed =
          All-weaker (Under (HoldsOf (with_values c m.values)) []) (MayHold c asked) (may c asked m.values one.1) p.assumed it.condition in
          let t : IsTrue r = tells (subst (All (MayHold c asked)) (sym are) met) in let u : r ≡ false = f in cc

  -- its rows were tried
  pub rows_passed : (rows : List (List Value)) (n r : ℕ) → rows ≡ told.rows → n ≡ length rows → n ≤ r → NoneBefore (t, r) → NoneBefore (t + 1, 0)
  rows_passed rows n r are n_is past none =
      none_in_entry p c trace entry rest bound t r told told_is (subst (λ rs. length rs ≤ r) are (subst (λ k. k ≤ r) n_is past)) none

  module _ (asked : List (Option Value)) (asked_is : asks ≡ Some asked) (r : ℕ) (rows : List (List Value)) (row shown : List Value) (rows_are : rows ≡ told.rows)
      (row_is : slice_get rows r ≡ Some row) (shown_is : shown ≡ row) (gives : Option (List (Option Value)))
      (given_tried : IsNarrowed (BecomesRow c entry shown) asked gives) where
    asked_narrows : Narrows (BecomesQuery entry told.query) bound asked true
    asked_narrows = subst (IsNarrowed (BecomesQuery entry told.query) bound) asked_is tried

    there : slice_get told.rows r ≡ Some shown
    there = subst (λ x. slice_get told.rows r ≡ Some x) (sym shown_is) (subst (λ rs. slice_get rs r ≡ Some row) rows_are row_is)

    -- the row is another
    pub row_passed : gives ≡ None → NoneBefore (t, r) → NoneBefore (t, r + 1)
    row_passed e none =
        none_next p c trace entry rest bound t r none
        (no_row p c trace entry rest bound t told told_is asked asked_narrows r shown there (subst (IsNarrowed (BecomesRow c entry shown) asked) e given_tried))

    module _ (given : List (Option Value)) (given_is : gives ≡ Some given) where
      given_narrows : Narrows (BecomesRow c entry shown) asked given true
      given_narrows = subst (IsNarrowed (BecomesRow c entry shown) asked) given_is given_tried

      pub row_left : IsLeft (entry ∷ rest) bound → IsLeft rest given
      row_left = still_left p c trace entry rest bound t told told_is asked asked_narrows r shown there given given_narrows

      as_rest : (m : Match) (others : List (ℕ × ℕ)) → IsRest p c trace (entry ∷ rest) bound m → m.places ≡ (t, r) ∷ others →
          IsRest p c trace rest given (record { values = m.values; places = others })
      as_rest m others is places =
          (into_rest p c trace entry rest bound t told told_is asked asked_narrows r shown there given true given_narrows m others is places).1

      -- nothing is found for the entries behind it
      pub row_hopeless : (found : Option Match) → found ≡ None → Finds p c trace rest given found → NoneBefore (t, r) → NoneBefore (t, r + 1)
      row_hopeless found e finds none =
          none_next p c trace entry rest bound t r none
          (λ m others is places. (subst (Finds p c trace rest given) e finds) (record { values = m.values; places = others }) (as_rest m others is places))

      pub row_found : (found : Option Match) (m it : Match) → found ≡ Some m → Finds p c trace rest given found → NoneBefore (t, r) →
          (it.values ≡ m.values) × (it.places ≡ (t, r) ∷ m.places) → IsFirstRest p c trace (entry ∷ rest) bound it
      row_found found m it e finds none made =
          let first : IsFirstRest p c trace rest given m = subst (Finds p c trace rest given) e finds in
          subst (IsFirstRest p c trace (entry ∷ rest) bound) (sym (ap₂ (λ vs ps. let x : Match = record { values = vs; places = ps } in x) made.0 made.1))
          (first_here p c trace entry rest bound t r m none
          (from_rest p c trace entry rest bound t told told_is asked asked_narrows r shown there given given_narrows m first.is_rest)
          (λ other others is places. first.first (record { values = other.values; places = others }) (as_rest other others is places)))
