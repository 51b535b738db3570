-- What a template matches is strongly compliant: its instance's trace is in the request's.
use Rattle.std.proofs.Common.{◌≡◌, ℕ, List, [], ◌∷◌, inl, inr, refl, sym, subst}
use Rattle.std.proofs.lemmas.List.Elements.{All-cons, All-nil}
use Rattle.std.proofs.lemmas.Option.{get_or_from_slice_get, slice_get_within}
use Rattle.std.specs.List.{All, AllZip, Contains}
use Rattle.std.specs.Prelude.{Some, slice_get}
use Rattle.ba_model.specs.Fit.{ContextFits, kinds_of}
use Rattle.ba_model.specs.declared.policy.Context.{Context}
use Rattle.ba_model.specs.declared.policy.Policy.{Policy}
use Rattle.ba_model.specs.declared.query.Query.{Query}
use Rattle.ba_model.proofs.ElementLemmas.{Contains-cases, Contains-nil}
use Rattle.ba_comply.specs.Comply.{Grows, IsKeptIn, Strong, StrongIsKept}
use Rattle.ba_comply.specs.declared.trace.TraceEntry.{TraceEntry}
use Rattle.ba_facts.specs.Fits.{Instance}
use Rattle.ba_kernel.specs.Problems.{IsEntryAt, IsInstance, StrongAll, query_at}
use Rattle.ba_kernel.specs.declared.problem.Problem.{Problem}
use Rattle.ba_kernel.specs.declared.problem.ProblemEntry.{ProblemEntry}
use Rattle.ba_template.specs.Found.{IsMatch, MatchedIsStrong, StandsAt, with_values}
use Rattle.ba_template.specs.declared.found.Match.{Match}

contains_at : {X : Type 0} (xs : List X) (k : ℕ) (x : X) → slice_get xs k ≡ Some x → Contains xs x
contains_at xs k x there = (k, slice_get_within xs k x there, get_or_from_slice_get xs k x x there)

module _ (i : Instance) (trace : List TraceEntry) where
  -- the entry of the trace at a place, with the row there alone
  row_entry : (entry : ProblemEntry) (place : ℕ × ℕ) → StandsAt i trace entry place → TraceEntry
  row_entry entry place h = record { query = h.of.query; rows = h.row ∷ [] }

  only : {X : Type 0} (x y : X) → Contains (x ∷ []) y → x ≡ y
  only x y h = elim (Contains-cases x [] y h) [
    | inl same ↦ same
    | inr later ↦ absurd (Contains-nil y later)
  ]

  unfoldable row_entries : (entries : List ProblemEntry) (places : List (ℕ × ℕ)) → AllZip (StandsAt i trace) entries places → List TraceEntry
  row_entries [] [] h = []
  row_entries [] (place ∷ places) h = []
  row_entries (entry ∷ entries) [] h = []
  row_entries (entry ∷ entries) (place ∷ places) h = row_entry entry place h.0 ∷ row_entries entries places h.1

  is_entry_at : (entry : ProblemEntry) (place : ℕ × ℕ) (h : StandsAt i trace entry place) → IsEntryAt i entry (row_entry entry place h)
  unfolding row_entry
  is_entry_at entry place h = record { row = h.row; query = h.query; rows = refl; values = h.values }

  is_kept_in : (entry : ProblemEntry) (place : ℕ × ℕ) (h : StandsAt i trace entry place) → IsKeptIn trace (row_entry entry place h)
  unfolding row_entry
  is_kept_in entry place h =
      record {
        later = h.of;
        there = contains_at trace place.0 h.of h.entry_is;
        query = refl;
        rows = λ r here. subst (Contains h.of.rows) (only h.row r here) (contains_at h.of.rows place.1 h.row h.row_is);
      }

  are_entries : (entries : List ProblemEntry) (places : List (ℕ × ℕ)) (h : AllZip (StandsAt i trace) entries places) →
      AllZip (IsEntryAt i) entries (row_entries entries places h)
  unfolding row_entries
  are_entries [] [] h = tt
  are_entries [] (place ∷ places) h = absurd h
  are_entries (entry ∷ entries) [] h = absurd h
  are_entries (entry ∷ entries) (place ∷ places) h = (is_entry_at entry place h.0, are_entries entries places h.1)

  are_kept : (entries : List ProblemEntry) (places : List (ℕ × ℕ)) (h : AllZip (StandsAt i trace) entries places) →
      All (IsKeptIn trace) (row_entries entries places h)
  unfolding row_entries
  are_kept [] [] h = All-nil (IsKeptIn trace)
  are_kept [] (place ∷ places) h = absurd h
  are_kept (entry ∷ entries) [] h = absurd h
  are_kept (entry ∷ entries) (place ∷ places) h =
      All-cons (IsKeptIn trace) (row_entry entry place h.0) (row_entries entries places h.1) (is_kept_in entry place h.0) (are_kept entries places h.1)

module _ (p : Problem) (c : Context) (trace : List TraceEntry) (m : Match) where
  abbrev here : Instance
  here = with_values c m.values

  -- of the problem's own policy and question
  matched : (q : Query) → StrongIsKept → StrongAll p → ContextFits (kinds_of p.policy.params) c → IsMatch p p.policy c trace q m →
      Strong p.policy c trace (query_at m.values p.goal)
  matched q kept strong fits h =
      let rows = row_entries here trace p.entries m.places h.places in
      let at : IsInstance p here = record { context = fits; vars = h.kinds; assumed = h.condition } in
      let grows : Grows rows trace = record { entries = are_kept here trace p.entries m.places h.places } in
      kept p.policy c rows trace (query_at m.values p.goal) grows (strong here rows at (are_entries here trace p.entries m.places h.places))

pub matched_is_strong : StrongIsKept → MatchedIsStrong
matched_is_strong kept p policy c trace q m strong fits h =
    let own : ContextFits (kinds_of p.policy.params) c = subst (λ (it : Policy). ContextFits (kinds_of it.params) c) (sym h.policy_is) fits in
    let mine : IsMatch p p.policy c trace q m =
    record { policy_is = refl; kinds = h.kinds; question = h.question; places = h.places; condition = h.condition } in
    let at : Strong p.policy c trace (query_at m.values p.goal) = matched p c trace m q kept strong own mine in
    let asked : Strong p.policy c trace q = subst (Strong p.policy c trace) h.question at in
    subst (λ (it : Policy). Strong it c trace q) h.policy_is asked
