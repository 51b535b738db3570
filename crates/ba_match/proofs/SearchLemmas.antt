-- One entry at one place of the trace, and what is left then.
use Rattle.std.proofs.Common.{◌≡◌, inl, inr, Bool, true, ℕ, ◌<◌, List, ◌∷◌, length, map, refl, sym, subst}
use Rattle.std.proofs.lemmas.List.Elements.{Contains-append_cases}
use Rattle.std.specs.List.{AllZip, Contains, flat_map}
use Rattle.std.specs.Prelude.{IsTrue, Option, Some, None, slice_get}
use Rattle.ba_model.specs.declared.policy.Context.{Context}
use Rattle.ba_model.specs.declared.query.Operand.TheVariants.{Var}
use Rattle.ba_model.specs.declared.query.Query.{Query}
use Rattle.ba_model.specs.declared.value.Value.{Value}
use Rattle.ba_comply.specs.declared.trace.TraceEntry.{TraceEntry}
use Rattle.ba_kernel.specs.Problems.{fixed_value, query_at}
use Rattle.ba_kernel.specs.declared.problem.Problem.{Problem}
use Rattle.ba_kernel.specs.declared.problem.ProblemEntry.{ProblemEntry}
use Rattle.ba_match.proofs.FreeLemmas.{query_fixes, row_fixes, was_free}
use Rattle.ba_match.specs.Bindings.{Extends, Narrows}
use Rattle.ba_match.specs.Searches.{IsLeft, IsRest}
use Rattle.ba_template.specs.Found.{StandsAt, with_values}
use Rattle.ba_template.specs.Templates.{operands_of, operands_of_entry}
use Rattle.ba_template.specs.Templates.{EachVarStands}
use Rattle.ba_template.specs.declared.found.Match.{Match}

-- the match at a place and then this one
abbrev pub at_place : ℕ × ℕ → Match → Match
at_place place m = record { values = m.values; places = place ∷ m.places }

abbrev pub BecomesQuery : ProblemEntry → Query → List Value → Type 0
BecomesQuery entry q v = query_at v entry.query ≡ q

abbrev pub BecomesRow : Context → ProblemEntry → List Value → List Value → Type 0
BecomesRow c entry row v = map (fixed_value (with_values c v)) entry.row ≡ map Some row

module _ (p : Problem) (c : Context) (trace : List TraceEntry) (entry : ProblemEntry) (rest : List ProblemEntry) (bound : List (Option Value)) where
  -- at the entry t of the trace
  module _ (t : ℕ) (told : TraceEntry) (told_is : slice_get trace t ≡ Some told) where
    pub stands_there : (v : List Value) (r : ℕ) → StandsAt (with_values c v) trace entry (t, r) → BecomesQuery entry told.query v
    stands_there v r h =
        let first : slice_get trace t ≡ Some h.of = h.entry_is in
        let same : h.of ≡ told = cc (told_is, first) in
        sym (subst (λ (it : TraceEntry). it.query ≡ query_at v entry.query) same h.query)

    -- the query can't become the one there
    pub no_entry : ((v : List Value) → Extends bound v → BecomesQuery entry told.query v → ⊥) → (m : Match) (r : ℕ) (others : List (ℕ × ℕ)) →
        IsRest p c trace (entry ∷ rest) bound m → m.places ≡ (t, r) ∷ others → ⊥
    no_entry never m r others is places =
        let all : AllZip (StandsAt (with_values c m.values) trace) (entry ∷ rest) ((t, r) ∷ others) =
        subst (AllZip (StandsAt (with_values c m.values) trace) (entry ∷ rest)) places is.places in
        never m.values is.extends (stands_there m.values r all.0)

    -- at its row r
    module _ (asked : List (Option Value)) (h : Narrows (BecomesQuery entry told.query) bound asked true) (r : ℕ) (row : List Value)
        (row_is : slice_get told.rows r ≡ Some row) where
      row_there : (v : List Value) → StandsAt (with_values c v) trace entry (t, r) → BecomesRow c entry row v
      row_there v s =
          let first : slice_get trace t ≡ Some s.of = s.entry_is in
          let same : s.of ≡ told = cc (told_is, first) in
          let there : slice_get told.rows r ≡ Some s.row = subst (λ (it : TraceEntry). slice_get it.rows r ≡ Some s.row) same s.row_is in
          let equal : s.row ≡ row = cc (there, row_is) in
          subst (λ ws. map (fixed_value (with_values c v)) entry.row ≡ map Some ws) equal s.values

      -- the row can't become the one there
      pub no_row : ((v : List Value) → Extends asked v → BecomesRow c entry row v → ⊥) → (m : Match) (others : List (ℕ × ℕ)) →
          IsRest p c trace (entry ∷ rest) bound m → m.places ≡ (t, r) ∷ others → ⊥
      no_row never m others is places =
          let all : AllZip (StandsAt (with_values c m.values) trace) (entry ∷ rest) ((t, r) ∷ others) =
          subst (AllZip (StandsAt (with_values c m.values) trace) (entry ∷ rest)) places is.places in
          let one = h.complete m.values is.extends (stands_there m.values r all.0) in
          never m.values one.1 (row_there m.values all.0)

      -- what matches from here on is a rest after it
      pub into_rest : (given : List (Option Value)) (g : Bool) → Narrows (BecomesRow c entry row) asked given g → (m : Match) (others : List (ℕ × ℕ)) →
          IsRest p c trace (entry ∷ rest) bound m → m.places ≡ (t, r) ∷ others →
          IsTrue g × IsRest p c trace rest given (record { values = m.values; places = others })
      into_rest given g k m others is places =
          let all : AllZip (StandsAt (with_values c m.values) trace) (entry ∷ rest) ((t, r) ∷ others) =
          subst (AllZip (StandsAt (with_values c m.values) trace) (entry ∷ rest)) places is.places in
          let one = h.complete m.values is.extends (stands_there m.values r all.0) in
          let two = k.complete m.values one.1 (row_there m.values all.0) in
          (two.0, record { extends = two.1; kinds = is.kinds; places = all.1; condition = is.condition })

      -- and the other way round
      pub from_rest : (given : List (Option Value)) → Narrows (BecomesRow c entry row) asked given true → (m : Match) → IsRest p c trace rest given m →
          IsRest p c trace (entry ∷ rest) bound (at_place (t, r) m)
      from_rest given k m is =
          let one = k.sound m.values refl is.extends in
          let two = h.sound m.values refl one.0 in
          let here : StandsAt (with_values c m.values) trace entry (t, r) =
          record { of = told; row = row; entry_is = told_is; row_is = row_is; query = sym two.1; values = one.1 } in
          record { extends = two.0; kinds = is.kinds; places = (here, is.places); condition = is.condition }

      -- a variable that is still free stands in what is left
      pub still_left : (given : List (Option Value)) → Narrows (BecomesRow c entry row) asked given true → IsLeft (entry ∷ rest) bound → IsLeft rest given
      still_left given k left = record { stands = stands }
        where
          stands : (n : ℕ) → slice_get given n ≡ Some None → Contains (flat_map operands_of_entry rest) (Var n)
          stands n free =
              let asked_free : slice_get asked n ≡ Some None = was_free n given free asked k in
              let bound_free : slice_get bound n ≡ Some None = was_free n asked asked_free bound h in
              elim (Contains-append_cases (operands_of_entry entry) (flat_map operands_of_entry rest) (Var n) (left.stands n bound_free)) [
                | inl here ↦ elim (Contains-append_cases (operands_of entry.query) entry.row (Var n) here) [
                  | inl asks ↦ absurd (query_fixes n asked asked_free entry.query told.query bound h asks)
                  | inr gives ↦ absurd (row_fixes n given free c entry.row row asked k gives)
                ]
                | inr later ↦ later
              ]

-- at the start each free variable stands in an entry
pub left_of_goal : (p : Problem) (q : Query) (old new : List (Option Value)) → EachVarStands p → ((n : ℕ) → slice_get old n ≡ Some None → n < length p.vars) →
    Narrows (λ v. query_at v p.goal ≡ q) old new true → IsLeft p.entries new
left_of_goal p q old new each within h = record { stands = stands }
  where
    stands : (n : ℕ) → slice_get new n ≡ Some None → Contains (flat_map operands_of_entry p.entries) (Var n)
    stands n free =
        elim (Contains-append_cases (operands_of p.goal) (flat_map operands_of_entry p.entries) (Var n) (each.stands n (within n (was_free n new free old h)))) [
          | inl goal ↦ absurd (query_fixes n new free p.goal q old h goal)
          | inr later ↦ later
        ]
