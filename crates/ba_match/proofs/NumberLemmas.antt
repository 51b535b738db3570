-- The numbers of the rows at a match's places, and that a template's instance closes the question's problem where it
-- closes the problem after these rows alone.
use Rattle.std.proofs.Common.{◌≡◌, ◌∙◌, ℕ, zero, suc, ◌+◌, ◌<◌, Bool, true, false, List, [], ◌∷◌, ◌++◌, length, map, take, get_or, refl, sym, ap, ap₂, subst, arith}
use Rattle.std.proofs.lemmas.List.{length-map, take_more}
use Rattle.std.proofs.lemmas.List.Concat.{flat_map-cons}
use Rattle.std.proofs.lemmas.List.Sums.{sum_by-cons, sum_by_more}
use Rattle.std.proofs.lemmas.Option.{none-some, same_Some, get_or_from_slice_get, slice_get_within}
use Rattle.std.specs.Prelude.{IfSome, Option, Some, slice_get, unwrap_or}
use Rattle.std.specs.Bool.{OnTrue}
use Rattle.std.specs.List.{flat_map}
use Rattle.ba_model.specs.declared.policy.Context.{Context}
use Rattle.ba_model.specs.declared.policy.Policy.{Policy}
use Rattle.ba_model.specs.declared.query.Operand.TheVariants.{Val}
use Rattle.ba_model.specs.declared.query.Query.{Query}
use Rattle.ba_model.specs.declared.value.Value.{Value}
use Rattle.ba_comply.specs.declared.trace.TraceEntry.{TraceEntry}
use Rattle.ba_kernel.proofs.CaseFactLemmas.{zip_append}
use Rattle.ba_kernel.specs.Problems.{entries_of, problem_of}
use Rattle.ba_kernel.specs.Replays.{Closes}
use Rattle.ba_kernel.specs.declared.problem.ProblemEntry.{ProblemEntry}
use Rattle.ba_kernel.specs.declared.step.Step.{Step}
use Rattle.ba_kernel.specs.declared.step.Step.TheVariants as steps
use Rattle.ba_template.specs.declared.found.Match.{Match}
use Rattle.ba_match.proofs.MovedLemmas.{closes_kept, renumbered}
use Rattle.ba_match.specs.Instances.{AreToldAt, IsToldAt, instance_of, number_at, number_in, rows_before, step_with, steps_with}

-- ---- rows before a place

-- the rows of one entry more
pub one_entry_more : (trace : List TraceEntry) (t : ℕ) (it : TraceEntry) → slice_get trace t ≡ Some it → rows_before trace (t + 1) ≡ rows_before trace t + length it.rows
one_entry_more trace t it is =
    sum_by_more (λ (x : TraceEntry). length x.rows) trace t it (slice_get_within trace t it is)
    ∙ ap (λ (x : TraceEntry). rows_before trace t + length x.rows) (get_or_from_slice_get trace t it it is)

-- ---- the entries of a trace

abbrev entry_of : Query → List Value → ProblemEntry
entry_of q row = record { query = q; row = map Val row }

-- the entry of a row among those of its query, in front of others
in_front : (q : Query) (rows : List (List Value)) (rest : List ProblemEntry) (n : ℕ) (row : List Value) → slice_get rows n ≡ Some row
    → slice_get (map (entry_of q) rows ++ rest) n ≡ Some (entry_of q row)
in_front q [] rest n row e = absurd (none-some row e)
in_front q (r ∷ rows) rest zero row e = ap (λ x. Some (entry_of q x)) (same_Some r row e)
in_front q (r ∷ rows) rest (suc n) row e = in_front q rows rest n row e

-- those behind
behind : {X : Type 0} (xs ys : List X) (n : ℕ) → slice_get (xs ++ ys) (length xs + n) ≡ slice_get ys n
behind [] ys n = let same : 0 + n ≡ n = omega arith in ap (slice_get ys) same
behind (x ∷ xs) ys n =
    let same : suc (length xs) + n ≡ suc (length xs + n) = omega arith in
    ap (slice_get (x ∷ (xs ++ ys))) same ∙ behind xs ys n

-- the number of a place is that of its row's entry
number_there : (trace : List TraceEntry) (t r : ℕ) (of : TraceEntry) (row : List Value) → slice_get trace t ≡ Some of → slice_get of.rows r ≡ Some row
    → slice_get (flat_map entries_of trace) (number_at trace (t, r)) ≡ Some (entry_of of.query row)
number_there [] t r of row e h = absurd (none-some of e)
number_there (it ∷ trace) zero r of row e h =
    let same : it ≡ of = same_Some it of e in
    let all : flat_map entries_of (it ∷ trace) ≡ entries_of of ++ flat_map entries_of trace =
    flat_map-cons entries_of it trace ∙ ap (λ x. entries_of x ++ flat_map entries_of trace) same in
    let at : number_at (it ∷ trace) (0, r) ≡ r = omega arith in
    ap₂ slice_get all at ∙ in_front of.query of.rows (flat_map entries_of trace) r row h
number_there (it ∷ trace) (suc t) r of row e h =
    let rest : List ProblemEntry = flat_map entries_of trace in
    let wide : length (entries_of it) ≡ length it.rows = length-map it.rows (entry_of it.query) in
    let at : number_at (it ∷ trace) (suc t, r) ≡ length (entries_of it) + number_at trace (t, r) =
    omega (arith, sum_by-cons (λ (x : TraceEntry). length x.rows) it (take t trace), wide) in
    ap₂ slice_get (flat_map-cons entries_of it trace) at ∙ behind (entries_of it) rest (number_at trace (t, r)) ∙ number_there trace t r of row e h

-- ---- the rows at the places

-- the entry has the listed number in the trace's problem
abbrev HasNumber : List TraceEntry → List (ℕ × ℕ) → ℕ → ProblemEntry → Type 0
HasNumber trace places n entry = (m : ℕ) × (slice_get (map (number_at trace) places) n ≡ Some m) × (slice_get (flat_map entries_of trace) m ≡ Some entry)

-- of the first place, and of those behind it
told_first : (trace : List TraceEntry) (place : ℕ × ℕ) (places : List (ℕ × ℕ)) (it : TraceEntry) (told : List TraceEntry) (entry : ProblemEntry) → IsToldAt trace place it
    → ((n : ℕ) → slice_get (flat_map entries_of told) n ≡ Some entry → HasNumber trace places n entry)
    → (n : ℕ) → slice_get (flat_map entries_of (it ∷ told)) n ≡ Some entry → HasNumber trace (place ∷ places) n entry
told_first trace place places it told entry one rest n e = by n (sym (ap (λ es. slice_get es n) flat) ∙ e)
  where
    first : ProblemEntry
    first = entry_of one.of.query one.row

    flat : flat_map entries_of (it ∷ told) ≡ first ∷ flat_map entries_of told
    flat = flat_map-cons entries_of it told ∙ ap (λ x. entries_of x ++ flat_map entries_of told) one.is

    by : (m : ℕ) → slice_get (first ∷ flat_map entries_of told) m ≡ Some entry → HasNumber trace (place ∷ places) m entry
    by zero e = (number_at trace place, refl, number_there trace place.0 place.1 one.of one.row one.entry_is one.row_is ∙ e)
    by (suc m) e = rest m e

told_there : (trace : List TraceEntry) (places : List (ℕ × ℕ)) (told : List TraceEntry) (n : ℕ) (entry : ProblemEntry) → AreToldAt trace places told
    → slice_get (flat_map entries_of told) n ≡ Some entry → HasNumber trace places n entry
told_there trace [] [] n entry h e = absurd (none-some entry e)
told_there trace [] (it ∷ told) n entry h e = absurd h
told_there trace (place ∷ places) [] n entry h e = absurd h
told_there trace (place ∷ places) (it ∷ told) n entry h e =
    told_first trace place places it told entry h.0 (λ m f. told_there trace places told m entry h.1 f) n e

-- ---- both at once

renumbered_with : (values : List Value) (numbers : List ℕ) (step : Step) → renumbered numbers (step_with values [] step) ≡ step_with values numbers step
unfolding step_with
renumbered_with values numbers (steps.Entry branch entry) = refl
renumbered_with values numbers (steps.Key branch key left right) = refl
renumbered_with values numbers (steps.Link branch link fact) = refl
renumbered_with values numbers (steps.Rule branch rule part facts) = refl
renumbered_with values numbers (steps.View branch view part facts) = refl
renumbered_with values numbers (steps.Split branch atom) = refl
renumbered_with values numbers (steps.Absurd branch) = refl
renumbered_with values numbers (steps.Goal branch part facts) = refl

all_renumbered : (values : List Value) (numbers : List ℕ) (taken : List Step) → map (renumbered numbers) (steps_with values [] taken) ≡ steps_with values numbers taken
all_renumbered values numbers [] = refl
all_renumbered values numbers (step ∷ taken) = ap₂ (λ x xs. x ∷ xs) (renumbered_with values numbers step) (all_renumbered values numbers taken)

module _ (policy : Policy) (c : Context) (trace told : List TraceEntry) (q : Query) (found : Match) (at : AreToldAt trace found.places told) where
  abbrev numbers : List ℕ
  numbers = map (number_at trace) found.places

  numbered : (n : ℕ) (it : ProblemEntry) → slice_get (flat_map entries_of told) n ≡ Some it → slice_get (flat_map entries_of trace) (number_in numbers n) ≡ Some it
  numbered n it e =
      let has = told_there trace found.places told n it at e in
      ap (λ o. slice_get (flat_map entries_of trace) (unwrap_or o n)) has.1 ∙ has.2

  pub instance_closes : (taken : List Step) → Closes (problem_of policy c told q) (steps_with found.values [] taken) → Closes (problem_of policy c trace q) (instance_of found trace taken)
  instance_closes taken h =
      subst (Closes (problem_of policy c trace q)) (all_renumbered found.values numbers taken)
      (closes_kept (problem_of policy c told q) (flat_map entries_of trace) numbers numbered (steps_with found.values [] taken) h)

pub many_with : (values : List Value) (numbers : List ℕ) (taken : List Step) → length (steps_with values numbers taken) ≡ length taken
many_with values numbers taken = length-map taken (step_with values numbers)

-- what is found of the steps after these rows holds of the instance
pub closes_so : (policy : Policy) (c : Context) (trace told : List TraceEntry) (q : Query) (found : Match) (taken own : List Step) → AreToldAt trace found.places told → own ≡ steps_with found.values [] taken
    → (b : Bool) → OnTrue b (Closes (problem_of policy c told q) own) → OnTrue b (Closes (problem_of policy c trace q) (instance_of found trace taken))
closes_so policy c trace told q found taken own at is true h =
    instance_closes policy c trace told q found at taken (subst (Closes (problem_of policy c told q)) is h)
closes_so policy c trace told q found taken own at is false h = tt

-- ---- the loop over the places

pub found_at : {X : Type 0} (o : Option X) (x : X) (P : X → Type 0) → o ≡ Some x → IfSome o P → P x
found_at o x P e h = subst (λ z. IfSome z P) e h

pub told_more : (trace : List TraceEntry) (places : List (ℕ × ℕ)) (i : ℕ) (d : ℕ × ℕ) (told new : List TraceEntry) (it : TraceEntry) → i < length places → AreToldAt trace (take i places) told
    → IsToldAt trace (get_or places i d) it → new ≡ told ++ it ∷ [] → AreToldAt trace (take (i + 1) places) new
told_more trace places i d told new it below before one pushed =
    subst (λ ps. AreToldAt trace ps new) (sym (take_more places i d below))
    (subst (AreToldAt trace (take i places ++ get_or places i d ∷ [])) (sym pushed)
    (zip_append (IsToldAt trace) (take i places) (get_or places i d ∷ []) told (it ∷ []) before (one, tt)))
