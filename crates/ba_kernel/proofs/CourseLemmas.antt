-- What breaks compliance fits an open branch after each step, so a course that leaves none open proves every instance.
use Rattle.std.proofs.Common.{◌≡◌, ℕ, zero, suc, ◌+◌, zero-add, suc-add, List, [], ◌∷◌, ◌++◌, length, map, refl, ap, sym, ◌∙◌, subst, inl, inr}
use Rattle.std.proofs.lemmas.Bool.{cases_eq}
use Rattle.std.proofs.lemmas.Option.{get_or_from_slice_get, none-some, same_Some, slice_get-map, slice_get_within}
use Rattle.std.specs.List.{Contains}
use Rattle.std.specs.Option.{option_map}
use Rattle.std.specs.Prelude.{Some, None, slice_get, slice_set}
use Rattle.ba_model.proofs.ElementLemmas.{Contains-cases, Contains-nil}
use Rattle.ba_model.specs.declared.value.RowSet.{RowSet}
use Rattle.ba_model.specs.declared.value.Value.{Value}
use Rattle.ba_comply.specs.declared.trace.TraceEntry.{TraceEntry}
use Rattle.ba_facts.specs.Fits.{Fits, Instance}
use Rattle.ba_facts.specs.Laws.{StrongHasNoViolation}
use Rattle.ba_facts.specs.declared.branch.Branch.{Branch}
use Rattle.ba_kernel.proofs.OperandLemmas.{get_kept}
use Rattle.ba_kernel.proofs.StartLemmas.{start_fits}
use Rattle.ba_kernel.specs.Courses.{AllClosed, ClosedIsStrong, FitsSome, IsOpen, IsSound, ProblemFits, Runs, RunsAreSound, Slots, Takes}
use Rattle.ba_kernel.specs.Courses.{after, branch_of, start, next}
use Rattle.ba_kernel.specs.Problems.{Breaks, IsInstance, IsTraceAt, query_at}
use Rattle.ba_kernel.specs.Soundness.{StepKeepsFit}
use Rattle.ba_kernel.specs.declared.problem.Problem.{Problem}
use Rattle.ba_kernel.specs.declared.step.Step.{Step}

-- ---- the slots after a step

set_there : {X : Type 0} (xs : List X) (n : ℕ) (x y : X) → slice_get xs n ≡ Some x → slice_get (slice_set xs n y) n ≡ Some y
set_there [] n x y e = cc
set_there (z ∷ xs) zero x y e = refl
set_there (z ∷ xs) (suc n) x y e = set_there xs n x y e

set_elsewhere : {X : Type 0} (xs : List X) (n m : ℕ) (x y : X) → (m ≡ n → ⊥) → slice_get xs m ≡ Some x → slice_get (slice_set xs n y) m ≡ Some x
set_elsewhere [] n m x y other e = cc
set_elsewhere (z ∷ xs) zero zero x y other e = absurd (other refl)
set_elsewhere (z ∷ xs) zero (suc m) x y other e = e
set_elsewhere (z ∷ xs) (suc n) zero x y other e = e
set_elsewhere (z ∷ xs) (suc n) (suc m) x y other e = set_elsewhere xs n m x y (λ same. other (ap suc same)) e

-- what stands behind a list
get_behind : {X : Type 0} (xs ys : List X) (k : ℕ) → slice_get (xs ++ ys) (length xs + k) ≡ slice_get ys k
get_behind [] ys k = ap (slice_get ys) (zero-add k)
get_behind (x ∷ xs) ys k = ap (slice_get (x ∷ (xs ++ ys))) (suc-add (length xs) k) ∙ get_behind xs ys k

place_of : {X : Type 0} (xs : List X) (x : X) → Contains xs x → (k : ℕ) × (slice_get xs k ≡ Some x)
place_of [] x there = absurd (Contains-nil x there)
place_of (y ∷ xs) x there =
    elim (Contains-cases y xs x there) [
      | inl same ↦ (0, ap Some same)
      | inr later ↦ let found = place_of xs x later in (suc found.0, found.1)
    ]

-- a branch of another number stays open
stays_open : (slots : Slots) (n m : ℕ) (cases : List Branch) (b : Branch) → (m ≡ n → ⊥) → IsOpen slots m b → IsOpen (after slots n cases) m b
stays_open slots n m [] b other e = set_elsewhere slots n m (Some b) None other e
stays_open slots n m (first ∷ others) b other e =
    get_kept (slice_set slots n (Some first)) (map Some others) m (Some b) (set_elsewhere slots n m (Some b) (Some first) other e)

-- each case has a number
case_is_open : (slots : Slots) (n : ℕ) (cases : List Branch) (old new : Branch) → IsOpen slots n old → Contains cases new →
    (m : ℕ) × IsOpen (after slots n cases) m new
case_is_open slots n [] old new e there = absurd (Contains-nil new there)
case_is_open slots n (first ∷ others) old new e there =
    let front = slice_set slots n (Some first) in
    let first_open = get_kept front (map Some others) n (Some first) (set_there slots n (Some old) (Some first) e) in
    elim (Contains-cases first others new there) [
      | inl same ↦ (n, first_open ∙ ap (λ b. Some (Some b)) same)
      | inr later ↦
          let found = place_of others new later in
          (length front + found.0, get_behind front (map Some others) found.0 ∙ (slice_get-map Some others found.0 ∙ ap (option_map Some) found.1))
    ]

-- ---- one step

module _ (step_keeps_fit : StepKeepsFit) (p : Problem) (fits : ProblemFits p) (i : Instance) (trace : List TraceEntry) (d e : RowSet) (r : List Value)
    (instance : IsInstance p i) (at : IsTraceAt p i trace) (breaks : Breaks p i trace d e r) where
  module _ (old new : Slots) (step : Step) (takes : Takes p old step new) where
    case_fits : Fits p.policy.schema takes.branch i d e r → FitsSome p new i d e r
    case_fits fit =
        let found = step_keeps_fit p takes.branch step takes.cases fits takes.leads i trace d e r instance at breaks fit in
        let it = case_is_open old (branch_of step) takes.cases takes.branch found.0 takes.open_ found.1 in
        record { number = it.0; branch = found.0; is_open = subst (λ slots. IsOpen slots it.0 found.0) (sym takes.new_is) it.1; fits = found.2 }

    -- the step's own branch is the one that it is on
    own_branch : (b : Branch) → IsOpen old (branch_of step) b → b ≡ takes.branch
    own_branch b is_open = same_Some b takes.branch (same_Some (Some b) (Some takes.branch) (sym is_open ∙ takes.open_))

    step_fits : FitsSome p old i d e r → FitsSome p new i d e r
    step_fits some =
        elim (cases_eq some.number (branch_of step)) [
          | inl same ↦
              let own = own_branch some.branch (subst (λ n. IsOpen old n some.branch) same some.is_open) in
              case_fits (subst (λ b. Fits p.policy.schema b i d e r) own some.fits)
          | inr other ↦
              let stays = stays_open old (branch_of step) some.number takes.cases some.branch other some.is_open in
              record {
                number = some.number;
                branch = some.branch;
                is_open = subst (λ slots. IsOpen slots some.number some.branch) (sym takes.new_is) stays;
                fits = some.fits;
              }
        ]

-- ---- courses

module _ (step_keeps_fit : StepKeepsFit) (p : Problem) (fits : ProblemFits p) where
  runs_sound : {taken : List Step} {slots : Slots} → Runs p taken slots → IsSound p slots
  runs_sound (start {slots = slots} h) i trace d e r instance at breaks = start_fits p i trace d e r slots fits instance breaks h
  runs_sound (next {step = step} {old = old} {new = new} runs takes) i trace d e r instance at breaks =
      let before = runs_sound runs i trace d e r instance at breaks in
      step_fits step_keeps_fit p fits i trace d e r instance at breaks old new step takes before

-- what breaks compliance fits an open branch after any steps
pub runs_are_sound : StepKeepsFit → RunsAreSound
runs_are_sound step_keeps_fit p taken slots fits runs = runs_sound step_keeps_fit p fits runs

not_closed : (slots : Slots) (n : ℕ) (b : Branch) → AllClosed slots → IsOpen slots n b → ⊥
not_closed slots n b closed e =
    let closed_there = closed n (Some b) (slice_get_within slots n (Some b) e) in
    let open_there = get_or_from_slice_get slots n (Some b) (Some b) e in
    none-some b (sym closed_there ∙ open_there)

-- a course that leaves no branch open proves every instance
pub closed_is_strong : StepKeepsFit → StrongHasNoViolation → ClosedIsStrong
closed_is_strong step_keeps_fit no_violation p taken slots fits runs closed i trace instance at =
    (no_violation p.policy i.context trace (query_at i.vars p.goal)).1
    (λ d e r breaks.
    let some = runs_are_sound step_keeps_fit p taken slots fits runs i trace d e r instance at breaks in
    not_closed slots some.number some.branch closed some.is_open)
