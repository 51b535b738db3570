-- What a step makes, by the layout before it.
use Rattle.std.proofs.Common.{◌≡◌, ◌≢◌, ℕ, zero, suc, ◌+◌, ◌<◌, List, [], ◌∷◌, length, get_or, map, take, refl, sym, ap, ap₂, ◌∙◌, subst, append-nil, arith}
use Rattle.std.specs.Prelude.{Some, None, slice_get, slice_set}
use Rattle.std.specs.List.{AllZip}
use Rattle.std.proofs.lemmas.List.{length-append, length-map, length-set}
use Rattle.std.proofs.lemmas.Option.{none-some, same_Some, slice_get_within}
use Rattle.ba_facts.proofs.Elements.{get_append_old, get_set_same}
use Rattle.ba_facts.specs.declared.branch.Branch.{Branch}
use Rattle.ba_facts.specs.declared.term.Fact.{Fact}
use Rattle.ba_kernel.specs.Courses.{IsOpen, Runs, Slots, Takes, after, branch_of}
use Rattle.ba_kernel.specs.declared.problem.Problem.{Problem}
use Rattle.ba_kernel.specs.declared.step.Step.{Step}
use Rattle.ba_general.proofs.CourseLemmas.{CaseAdds, cases_add, layout_of, next_laid, open_filled, runs_filled, runs_laid, tables_at, tables_of}
use Rattle.ba_general.specs.Layouts.{IsFilledOut, IsLaidOut, IsLayoutOf, Layout, adds, layout_after, start_layout, tables_on, wide}
use Rattle.ba_general.specs.Leaving.{IsMadeBy, Makes, MaybeIs, StepsMakeTheirs, gap_made, made_by, made_from}
use Rattle.ba_general.specs.declared.gap.Gap.{Gap}
use Rattle.ba_general.specs.declared.making.Made.{Made}

pub zip_wide : {X Y : Type 0} (R : X → Y → Type 0) (xs : List X) (ys : List Y) → AllZip R xs ys → length xs ≡ length ys
zip_wide R [] [] h = refl
zip_wide R [] (y ∷ ys) h = absurd h
zip_wide R (x ∷ xs) [] h = absurd h
zip_wide R (x ∷ xs) (y ∷ ys) h = ap suc (zip_wide R xs ys h.1)

module _ (p : Problem) (layout : Layout) (step : Step) where
  abbrev at : ℕ
  at = branch_of step

  added_cases : (old new : Slots) → IsLayoutOf old layout → (t : Takes p old step new) → AllZip (CaseAdds p.policy.schema t.branch) (adds p (tables_on layout at) step) t.cases
  added_cases old new laid t =
      subst (λ ts. AllZip (CaseAdds p.policy.schema t.branch) (adds p ts step) t.cases) (tables_at old layout at t.branch laid t.open_)
      (cases_add p t.branch step t.cases t.leads)

  one_only : (old new : Slots) (b c : Branch) (cases : List Branch) → IsOpen old at b → new ≡ after old at cases → IsOpen new at c → length new ≡ length old → length cases ≡ 1
  one_only old new b c [] open_ e there one =
      let below : at < length old = slice_get_within old at (Some b) open_ in
      let closed : slice_get new at ≡ Some None = ap (λ s. slice_get s at) e ∙ get_set_same old at None below in
      absurd (let no : ⊥ = cc in no)
  one_only old new b c (d ∷ []) open_ e there one = refl
  one_only old new b c (d ∷ f ∷ others) open_ e there one =
      let wide_is : length new ≡ length old + suc (length others) =
      ap length e ∙ (length-append (slice_set old at (Some d)) (map Some (f ∷ others)) ∙ ap₂ (λ n m. n + m) (length-set old at (Some d)) (length-map (f ∷ others) Some)) in
      absurd (omega arith)

  gap_none : (old new : Slots) → IsLayoutOf old layout → Takes p old step new → length (adds p (tables_on layout at) step) ≢ 1 → (gap : Gap) → ¬ (Makes old new step gap)
  gap_none old new laid t several gap makes =
      several
      (zip_wide (CaseAdds p.policy.schema t.branch) (adds p (tables_on layout at) step) t.cases (added_cases old new laid t) ∙
      one_only old new t.branch makes.after t.cases t.open_ t.new_is makes.open_after makes.one_case)

  makes_one : (old new : Slots) (b : Branch) (cases : List Branch) (added : List ℕ) (gap : Gap) → IsLayoutOf old layout → IsFilledOut p old → IsOpen old at b →
      new ≡ after old at cases → AllZip (CaseAdds p.policy.schema b) (added ∷ []) cases → gap.facts.first ≡ length (tables_on layout at) →
      gap.facts.count ≡ length added → gap.unknowns.first ≡ wide p.policy.schema (tables_on layout at) → gap.unknowns.count ≡ wide p.policy.schema added →
      Makes old new step gap
  makes_one old new b [] added gap laid filled open_ e h f g u v = absurd h
  makes_one old new b (c ∷ d ∷ others) added gap laid filled open_ e h f g u v = absurd h.1
  makes_one old new b (c ∷ []) added gap laid filled open_ e h f g u v =
      let below : at < length old = slice_get_within old at (Some b) open_ in
      let same : tables_of b ≡ tables_on layout at = tables_at old layout at b laid open_ in
      let own : length b.known.unknowns ≡ wide p.policy.schema (tables_of b) = open_filled p old at b filled open_ in
      let wide_b : length (tables_of b) ≡ length b.facts = length-map b.facts (λ (fact : Fact). fact.table) in
      let wide_c : length (tables_of c) ≡ length c.facts = length-map c.facts (λ (fact : Fact). fact.table) in
      let both : length (tables_of c) ≡ length (tables_of b) + length added = ap length h.0.tables ∙ length-append (tables_of b) added in
      record {
        before = b;
        after = c;
        open_before = open_;
        open_after = ap (λ s. slice_get s at) e ∙ get_append_old (slice_set old at (Some c)) [] at (Some c) (get_set_same old at (Some c) below);
        one_case = ap length e ∙ (ap length (append-nil (slice_set old at (Some c))) ∙ length-set old at (Some c));
        first_fact = f ∙ (sym (ap length same) ∙ wide_b);
        facts = sym wide_c ∙ (both ∙ ap₂ (λ n m. n + m) wide_b (sym g));
        first_unknown = u ∙ (sym (ap (wide p.policy.schema) same) ∙ sym own);
        unknowns = h.0.unknowns ∙ ap (λ n. length b.known.unknowns + n) (sym v);
      }

  gap_is : (old new : Slots) (cases : Layout) → IsLayoutOf old layout → IsFilledOut p old → Takes p old step new → cases ≡ adds p (tables_on layout at) step →
      MaybeIs (Makes old new step) (gap_made p.policy.schema (tables_on layout at) cases)
  gap_is old new [] laid filled t e = gap_none old new laid t (λ one. let none : 0 ≡ 1 = ap length e ∙ one in absurd (omega (arith, none)))
  gap_is old new (added ∷ []) laid filled t e =
      makes_one old new t.branch t.cases added _ laid filled t.open_ t.new_is
      (subst (λ more. AllZip (CaseAdds p.policy.schema t.branch) more t.cases) (sym e) (added_cases old new laid t)) refl refl refl refl
  gap_is old new (added ∷ other ∷ others) laid filled t e =
      gap_none old new laid t (λ one. let many : suc (suc (length others)) ≡ 1 = ap length e ∙ one in absurd (omega (arith, many)))

  pub makes_its : (taken : List Step) (old new : Slots) → Runs p taken old → IsLayoutOf old layout → Takes p old step new → IsMadeBy old new step (made_by p layout step)
  makes_its taken old new runs laid t =
      record {
        gap = gap_is old new (adds p (tables_on layout at) step) laid (runs_filled p taken old runs) t refl;
        before = sym (zip_wide IsLaidOut old layout laid);
        after = sym (zip_wide IsLaidOut new (layout_after p layout step) (next_laid p old new step layout t laid));
      }

made_at : (p : Problem) (layout : Layout) (taken : List Step) (n : ℕ) (step : Step) (it : Made) → slice_get taken n ≡ Some step → slice_get (made_from p layout taken) n ≡ Some it →
    it ≡ made_by p (layout_of p layout (take n taken)) step
made_at p layout [] n step it at its_at = absurd (none-some step at)
made_at p layout (first ∷ later) zero step it at its_at =
    same_Some it (made_by p layout first) (sym its_at) ∙ ap (made_by p layout) (same_Some first step at)
made_at p layout (first ∷ later) (suc n) step it at its_at = made_at p (layout_after p layout first) later n step it at its_at

pub make_theirs : StepsMakeTheirs
make_theirs p taken n old new step it runs t at its_at =
    let layout : Layout = layout_of p (start_layout p) (take n taken) in
    subst (IsMadeBy old new step) (sym (made_at p (start_layout p) taken n step it at its_at))
    (makes_its p layout step (take n taken) old new runs (runs_laid p (take n taken) old runs) t)

pub one_element : {X : Type 0} (xs : List X) (x : X) → length xs ≡ 1 → x ≡ get_or xs 0 x → xs ≡ x ∷ []
one_element [] x one e = absurd (omega arith)
one_element (y ∷ []) x one e = ap (λ z. z ∷ []) (sym e)
one_element (y ∷ z ∷ xs) x one e = absurd (omega arith)
