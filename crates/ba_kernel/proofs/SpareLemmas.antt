-- A branch that is kept from before the last step, and what the step makes of it again.
use Rattle.std.proofs.Common.{◌≡◌, ◌∙◌, ℕ, zero, suc, ◌-◌, ◌<◌, List, [], ◌∷◌, ◌++◌, length, refl, sym, ap, ap₂, subst, arith, false}
use Rattle.std.proofs.lemmas.Bool.{ne_eqb}
use Rattle.std.proofs.lemmas.List.{append-nil, length-append}
use Rattle.std.proofs.lemmas.Option.{same_Some}
use Rattle.std.specs.Prelude.{Option, Some, None, slice_get, slice_set, slice_index_or, if◌then◌else◌, ◌==◌}
use Rattle.ba_facts.specs.declared.branch.Branch.{Branch}
use Rattle.ba_kernel.proofs.OneCase.{leads_one, leads_pass}
use Rattle.ba_kernel.proofs.SearchLemmas.{Led, led}
use Rattle.ba_kernel.specs.Courses.{ProblemFits, Slots, after, branch_of}
use Rattle.ba_kernel.specs.Steps.{Leads, Passes}
use Rattle.ba_kernel.specs.SearchStates.{Course, IsCourse, LeadsAt, PassesAt, RunsAreTidy, open_at}
use Rattle.ba_kernel.specs.Spares.{IsBefore, IsLastOn, IsSpare, LeadsTo}
use Rattle.ba_kernel.specs.declared.problem.Problem.{Problem}
use Rattle.ba_kernel.specs.declared.step.Step.{Step}
use Rattle.ba_kernel.specs.declared.step.Step.TheVariants as steps

-- ---- steps that leave no case

pub absurd_leads : (p : Problem) (b : Branch) (step : Step) (n : ℕ) (cases : List Branch) → step ≡ steps.Absurd n → Passes p b step → cases ≡ [] → Leads p b step cases
absurd_leads p b step n cases is passes none =
    subst (λ s. Leads p b s cases) (sym is) (record { passes = subst (Passes p b) is passes; cases_are = none })

pub goal_leads : (p : Problem) (b : Branch) (step : Step) (n part : ℕ) (facts : List ℕ) (cases : List Branch) → step ≡ steps.Goal n part facts → Passes p b step → cases ≡ [] →
    Leads p b step cases
goal_leads p b step n part facts cases is passes none =
    subst (λ s. Leads p b s cases) (sym is) (record { passes = subst (Passes p b) is passes; cases_are = none })

-- ---- the one case

pub passed : (p : Problem) (b new : Branch) (step : Step) → LeadsTo p b step new → Passes p b step
passed p b new step to = leads_pass p b step (new ∷ []) to.leads

pub popped : {X : Type 0} (xs : List X) (n : ℕ) (o : Option X) (x : X) → n ≡ length xs → xs ≡ x ∷ [] → ((d : X) → 0 < n → o ≡ Some (slice_index_or xs (n - 1) d)) → o ≡ Some x
popped xs n o x n_is is value =
    let one : n ≡ 1 = n_is ∙ ap length is in
    value x (omega (arith, one)) ∙ ap Some (ap₂ (λ ys m. slice_index_or ys (m - 1) x) is one)

pub one_case : (p : Problem) (b new : Branch) (step : Step) (cases : List Branch) → ProblemFits p → LeadsTo p b step new → Leads p b step cases → cases ≡ new ∷ []
one_case p b new step cases fits to leads = leads_one p b cases (new ∷ []) fits step leads to.leads

-- ---- what is kept

last_is : (k : Course) (old : Branch) (step : Step) (n : ℕ) (h : IsBefore k old) → IsLastOn k n (Some step) → h.step ≡ step
last_is k old step n h last = same_Some h.step step (sym h.last ∙ last.0)

module _ (k : Course) (p : Problem) (taken : List Step) (slots : Slots) (before : Option Branch) (old : Branch) (got : Option Step) (step : Step) (n : ℕ)
    (view : record { problem = p; steps = taken; slots = slots } ≡ k) (old_is : before ≡ Some old) (spare : IsSpare k before) (step_is : got ≡ Some step)
    (last : IsLastOn k n got) where
  was : IsBefore k old
  was = subst (IsSpare k) old_is spare

  at_last : IsLastOn k n (Some step)
  at_last = subst (IsLastOn k n) step_is last

  pub leads_on : (new : Branch) × LeadsTo p old step new
  leads_on =
      let at_step : LeadsTo k.problem old step was.new = subst (λ s. LeadsTo k.problem old s was.new) (last_is k old step n was at_last) was.leads in
      (was.new, subst (λ q. LeadsTo q old step was.new) (ap (λ (c : Course). c.problem) (sym view)) at_step)

  pub brought : (it : Option Branch) → ((new : Branch) → LeadsTo p old step new → it ≡ Some new) → (b : Branch) → it ≡ Some b → open_at k.slots n ≡ Some b
  unfolding was leads_on
  brought it all b is =
      let same : was.new ≡ b = same_Some was.new b (sym (all was.new leads_on.1) ∙ is) in
      let number : branch_of was.step ≡ n = ap branch_of (last_is k old step n was at_last) ∙ at_last.1 in
      let there : slice_get k.slots n ≡ Some (Some was.new) = subst (λ m. slice_get k.slots m ≡ Some (Some was.new)) number was.open_ in
      ap (Rattle.std.specs.Prelude.option_and_then (λ slot. slot)) there ∙ ap Some same

-- a branch on which a step passes its tests is open
pub passed_open : (p : Problem) (slot : Option Branch) (step : Step) → PassesAt p slot step → (b : Branch) × (slot ≡ Some b)
passed_open p None step h = elim h [ ]
passed_open p (Some b) step h = (b, refl)

set_at : {X : Type 0} (xs : List X) (n : ℕ) (x y : X) → slice_get xs n ≡ Some x → slice_get (slice_set xs n y) n ≡ Some y
set_at [] n x y e = cc
set_at (z ∷ xs) zero x y e = refl
set_at (z ∷ xs) (suc n) x y e = set_at xs n x y e

pushed_at : {X : Type 0} (xs : List X) (x : X) → slice_get (xs ++ x ∷ []) (length xs) ≡ Some x
pushed_at [] x = refl
pushed_at (z ∷ xs) x = pushed_at xs x

last_at : {X : Type 0} (xs : List X) (x : X) → slice_get (xs ++ x ∷ []) (length (xs ++ x ∷ []) - 1) ≡ Some x
last_at xs x =
    let long = length-append xs (x ∷ []) in
    let count : length xs ≡ length (xs ++ x ∷ []) - 1 = omega (arith, long) in
    subst (λ n. slice_get (xs ++ x ∷ []) n ≡ Some x) count (pushed_at xs x)

module _ (p : Problem) (taken : List Step) (slots : Slots) (step : Step) (new : Branch) (course : IsCourse (record { problem = p; steps = taken; slots = slots }))
    (tidy : RunsAreTidy) where
  one_is : Led p slots (branch_of step) step (new ∷ []) → (kept : Option Branch) → kept ≡ open_at slots (branch_of step) →
      IsSpare (record { problem = p; steps = taken ++ step ∷ []; slots = after slots (branch_of step) (new ∷ []) }) kept
  one_is l kept kept_is =
      let n = branch_of step in
      let old : kept ≡ Some l.branch = kept_is ∙ ap (Rattle.std.specs.Prelude.option_and_then (λ slot. slot)) l.open_ in
      let there : slice_get (slice_set slots n (Some new)) n ≡ Some (Some new) = set_at slots n (Some l.branch) (Some new) l.open_ in
      subst (IsSpare (record { problem = p; steps = taken ++ step ∷ []; slots = after slots n (new ∷ []) })) (sym old)
      (record {
        step = step;
        new = new;
        last = last_at taken step;
        open_ = subst (λ xs. slice_get xs n ≡ Some (Some new)) (sym (append-nil (slice_set slots n (Some new)))) there;
        leads = record { tidy = tidy p taken slots course.fits course.runs n l.branch l.open_; leads = l.leads };
      })

plain_kept : (p : Problem) (taken : List Step) (slots : Slots) (step : Step) (cases : List Branch) (old kept : Option Branch) →
    IsCourse (record { problem = p; steps = taken; slots = slots }) → RunsAreTidy → LeadsAt p (open_at slots (branch_of step)) step cases →
    old ≡ open_at slots (branch_of step) → kept ≡ (if length cases == 1 then old else None) →
    IsSpare (record { problem = p; steps = taken ++ step ∷ []; slots = after slots (branch_of step) cases }) kept
plain_kept p taken slots step [] old kept course tidy leads old_is is =
    subst (IsSpare (record { problem = p; steps = taken ++ step ∷ []; slots = after slots (branch_of step) [] })) (sym is) tt
plain_kept p taken slots step (new ∷ []) old kept course tidy leads old_is is =
    one_is p taken slots step new course tidy (led p slots (branch_of step) step (new ∷ []) leads) kept (is ∙ old_is)
plain_kept p taken slots step (new ∷ other ∷ rest) old kept course tidy leads old_is is =
    let several : (length (new ∷ other ∷ rest) == 1) ≡ false = ne_eqb (length (new ∷ other ∷ rest)) 1 (λ e. omega (arith, e)) in
    let none : kept ≡ None = is ∙ ap (λ b. if b then old else None) several in
    subst (IsSpare (record { problem = p; steps = taken ++ step ∷ []; slots = after slots (branch_of step) (new ∷ other ∷ rest) })) (sym none) tt

pub kept : (k : Course) (p : Problem) (taken more : List Step) (slots left : Slots) (step : Step) (cases : List Branch) (n : ℕ) (old it : Option Branch) →
    record { problem = p; steps = taken; slots = slots } ≡ k → IsCourse (record { problem = p; steps = taken; slots = slots }) → RunsAreTidy →
    LeadsAt k.problem (open_at k.slots (branch_of step)) step cases → more ≡ taken ++ step ∷ [] → left ≡ after slots (branch_of step) cases →
    n ≡ length cases → old ≡ open_at slots (branch_of step) → it ≡ (if n == 1 then old else None) → IsSpare (record { problem = p; steps = more; slots = left }) it
kept k p taken more slots left step cases n old it view course tidy leads more_is left_is n_is old_is is =
    let own = subst (λ q. LeadsAt q.problem (open_at q.slots (branch_of step)) step cases) (sym view) leads in
    let counted = subst (λ m. it ≡ (if m == 1 then old else None)) n_is is in
    subst (λ xs. IsSpare (record { problem = p; steps = xs; slots = left }) it) (sym more_is)
    (subst (λ xs. IsSpare (record { problem = p; steps = taken ++ step ∷ []; slots = xs }) it) (sym left_is)
    (plain_kept p taken slots step cases old it course tidy own old_is counted))
