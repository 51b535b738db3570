-- What a replay comes to: a step that is refused, and the end.
use Rattle.std.proofs.Common.{◌≡◌, ◌∙◌, ℕ, List, [], ◌∷◌, ◌++◌, length, map, take, refl, sym, ap, subst}
use Rattle.std.specs.Iterator.{Yields}
use Rattle.std.specs.List.{AllZip}
use Rattle.std.specs.Prelude.{Option, Some, None, Err, slice_get}
use Rattle.std.specs.Vec.Iter.{into_iter_items, into_iter_steps}
use Rattle.std.specs.declared.vec.IntoIter.{IntoIter}
use Rattle.ba_model.specs.declared.failure.Failure.{Failure}
use Rattle.ba_model.specs.declared.failure.Failure.TheVariants.{NoMemory, Fault}
use Rattle.ba_facts.specs.declared.branch.Branch.{Branch}
use Rattle.ba_kernel.specs.Courses.{AllClosed, IsStartOf, Runs, Slots, branch_of, next, start}
use Rattle.ba_kernel.specs.Replays.{Closes, IsNextRefused, MayWantMemory, RefusesAt, Replays, StaysOpen}
use Rattle.ba_kernel.specs.SearchStates.{Course, IsCourse, IsPassed, IsRefusedAt, PassesAt, open_at}
use Rattle.ba_kernel.specs.declared.problem.Problem.{Problem}
use Rattle.ba_kernel.specs.declared.replaying.ReplayFault.{ReplayFault}
use Rattle.ba_kernel.specs.declared.replaying.ReplayFault.TheVariants.{Refused, Open}
use Rattle.ba_kernel.specs.declared.step.Step.{Step}
use Rattle.ba_kernel.specs.declared.step.StepFault.{StepFault}

next_at : {X : Type 0} (xs ys : List X) (x : X) → slice_get (xs ++ x ∷ ys) (length xs) ≡ Some x
next_at [] ys x = refl
next_at (z ∷ xs) ys x = next_at xs ys x

front_is : {X : Type 0} (xs ys : List X) → take (length xs) (xs ++ ys) ≡ xs
front_is [] ys = refl
front_is (x ∷ xs) ys = ap (λ zs. x ∷ zs) (front_is xs ys)

-- ---- steps that an iterator gives by value

-- what was given comes first
given_first : {X Z : Type 0} (xs : List X) (s t : IntoIter X Z) → Yields into_iter_steps s xs t → into_iter_items s ≡ xs ++ into_iter_items t
given_first [] s t e = ap into_iter_items e
given_first (x ∷ xs) s t (j, st, y) = st.0 ∙ ap (λ l. x ∷ l) (given_first xs j t y)

pub given_next : {X Z : Type 0} (all items given : List X) (s t u : IntoIter X Z) (r : Option X) (x : X) → items ≡ all → into_iter_items s ≡ items →
    Yields into_iter_steps s given t → r ≡ Some x → into_iter_steps t r u → all ≡ given ++ x ∷ into_iter_items u
given_next all items given s t u r x whole from gave is step =
    let one : into_iter_steps t (Some x) u = subst (λ o. into_iter_steps t o u) is step in
    sym whole ∙ (sym from ∙ (given_first given s t gave ∙ ap (λ ys. given ++ ys) one.0))

-- ---- what it comes to

-- the next step of a course is refused
refused_next : (c : Course) (rest : List Step) (step : Step) (number : ℕ) (fault : StepFault) → IsCourse c → number ≡ length c.steps →
    IsRefusedAt c.problem (open_at c.slots (branch_of step)) step fault → RefusesAt c.problem (c.steps ++ step ∷ rest) number fault
refused_next c rest step number fault course number_is refused =
    let front : take number (c.steps ++ step ∷ rest) ≡ c.steps =
    ap (λ n. take n (c.steps ++ step ∷ rest)) number_is ∙ front_is c.steps (step ∷ rest) in
    record {
      slots = c.slots;
      runs = subst (λ xs. Runs c.problem xs c.slots) (sym front) course.runs;
      step = step;
      step_is = ap (λ n. slice_get (c.steps ++ step ∷ rest) n) number_is ∙ next_at c.steps rest step;
      refused = refused;
    }

-- a problem whose goal has no part has no branch
no_starts : (p : Problem) (branches : List Branch) → AllZip (IsStartOf p) [] branches → branches ≡ []
no_starts p [] h = refl
no_starts p (b ∷ branches) h = absurd h

none_open : (p : Problem) → p.goal.parts ≡ [] → {taken : List Step} {slots : Slots} → Runs p taken slots → slots ≡ []
none_open p none (start {slots = slots} h) =
    h.slots_are ∙ ap (map Some) (no_starts p h.branches (subst (λ parts. AllZip (IsStartOf p) parts h.branches) none h.starts))
none_open p none (next {step = step} {old = old} {new = new} runs takes) =
    let before : old ≡ [] = none_open p none runs in
    let there : slice_get old (branch_of step) ≡ Some (Some takes.branch) = takes.open_ in
    let nothing : slice_get old (branch_of step) ≡ None = ap (λ slots. slice_get slots (branch_of step)) before in
    absurd (let wrong : Some (Some takes.branch) ≡ None = sym there ∙ nothing in cc)

-- so a step that passes its tests tells that the goal has a part
passed_has_parts : (c : Course) (step : Step) → IsCourse c → IsPassed c step → MayWantMemory c.problem
passed_has_parts c step course passed none =
    subst (λ slots. PassesAt c.problem (open_at slots (branch_of step)) step) (none_open c.problem none course.runs) passed

error_next : (c : Course) (rest : List Step) (step : Step) (e : Failure ReplayFault) → IsNextRefused c step e → Replays c.problem (c.steps ++ step ∷ rest) (Err e)
error_next c rest step NoMemory (course, passed) = passed_has_parts c step course passed
error_next c rest step (Fault Open) h = absurd h
error_next c rest step (Fault (Refused number fault)) (course, number_is, refused) = refused_next c rest step number fault course number_is refused

pub refused : (c : Course) (p : Problem) (steps yielded rest : List Step) (step : Step) (e : Failure ReplayFault) → c.problem ≡ p → c.steps ≡ yielded →
    steps ≡ yielded ++ step ∷ rest → IsNextRefused c step e → Replays p steps (Err e)
refused c p steps yielded rest step e of so_far whole h =
    let all : c.steps ++ step ∷ rest ≡ steps = ap (λ xs. xs ++ step ∷ rest) so_far ∙ sym whole in
    subst (λ q. Replays q steps (Err e)) of (subst (λ xs. Replays c.problem xs (Err e)) all (error_next c rest step e h))

-- the course has taken all steps
pub closes : (c : Course) (p : Problem) (steps : List Step) → c.problem ≡ p → c.steps ≡ steps → IsCourse c → AllClosed c.slots → Closes p steps
closes c p steps of all course closed =
    let own : Closes c.problem c.steps = record { slots = c.slots; runs = course.runs; closed = closed } in
    subst (λ q. Closes q steps) of (subst (Closes c.problem) all own)

pub stays_open : (c : Course) (p : Problem) (steps : List Step) → c.problem ≡ p → c.steps ≡ steps → IsCourse c → (AllClosed c.slots → ⊥) → StaysOpen p steps
stays_open c p steps of all course open_ =
    let own : StaysOpen c.problem c.steps = record { slots = c.slots; runs = course.runs; open_ = open_ } in
    subst (λ q. StaysOpen q steps) of (subst (StaysOpen c.problem) all own)
