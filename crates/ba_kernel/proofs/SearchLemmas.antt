-- What a search keeps when the cases of a step are put in a branch's place.
use Rattle.std.proofs.Common.{◌≡◌, ℕ, zero, suc, ◌+◌, ◌*◌, ◌≤◌, ◌<◌, List, [], ◌∷◌, ◌++◌, length, refl, ap, sym, ◌∙◌, subst, arith}
use Rattle.std.proofs.lemmas.List.{append-nil, length-append}
use Rattle.std.proofs.lemmas.Option.{slice_get-get_or, slice_get_within}
use Rattle.std.specs.Prelude.{OnOk, OnErr, Option, Some, None, Result, Ok, Err, get_or, slice_get, slice_set, take}
use Rattle.ba_model.specs.Limits.{most_steps}
use Rattle.ba_facts.specs.declared.branch.Branch.{Branch}
use Rattle.ba_kernel.proofs.NumberLemmas.{after_few, leads_few, start_few}
use Rattle.ba_kernel.specs.Courses.{IsOpen, IsStart, ProblemFits, Runs, Slots, Takes, after, branch_of, next, start}
use Rattle.ba_kernel.specs.Steps.{Leads}
use Rattle.ba_kernel.specs.SearchStates.{Course, IsCourse, IsTidy, LeadsAt, RunsAreTidy, first_case, open_at, other_cases}
use Rattle.ba_kernel.specs.declared.problem.Problem.{Problem}
use Rattle.ba_kernel.specs.declared.step.Step.{Step}

set_before : {X : Type 0} (xs ys : List X) (n : ℕ) (x y : X) → slice_get xs n ≡ Some x → slice_set (xs ++ ys) n y ≡ slice_set xs n y ++ ys
set_before [] ys n x y e = cc
set_before (z ∷ xs) ys zero x y e = refl
set_before (z ∷ xs) ys (suc n) x y e = ap (λ l. z ∷ l) (set_before xs ys n x y e)

put_after : (slots : Slots) (n : ℕ) (x : Option Branch) (cases : List Branch) → slice_get slots n ≡ Some x → slice_set (slots ++ other_cases cases) n (first_case cases) ≡ after slots n cases
put_after slots n x [] e = set_before slots [] n x None e ∙ append-nil (slice_set slots n None)
put_after slots n x (b ∷ others) e = set_before slots (other_cases (b ∷ others)) n x (Some b) e

set_twice : {X : Type 0} (xs : List X) (n : ℕ) (x y : X) → slice_set (slice_set xs n x) n y ≡ slice_set xs n y
set_twice [] n x y = refl
set_twice (z ∷ xs) zero x y = refl
set_twice (z ∷ xs) (suc n) x y = ap (λ l. z ∷ l) (set_twice xs n x y)

-- a branch of the slots that the step leads on from
pub record Led (p : Problem) (slots : Slots) (n : ℕ) (step : Step) (cases : List Branch) : Type 0 where
  pub branch : Branch
  pub open_ : IsOpen slots n branch
  pub leads : Leads p branch step cases

led_slot : (p : Problem) (slots : Slots) (n : ℕ) (step : Step) (cases : List Branch) (slot : Option (Option Branch)) → slice_get slots n ≡ slot →
    LeadsAt p (Rattle.std.specs.Prelude.option_and_then (λ it. it) slot) step cases → Led p slots n step cases
led_slot p slots n step cases None e h = elim h [ ]
led_slot p slots n step cases (Some None) e h = elim h [ ]
led_slot p slots n step cases (Some (Some b)) e h = record { branch = b; open_ = e; leads = h }

pub led : (p : Problem) (slots : Slots) (n : ℕ) (step : Step) (cases : List Branch) → LeadsAt p (open_at slots n) step cases → Led p slots n step cases
led p slots n step cases h = led_slot p slots n step cases (slice_get slots n) refl h

pub slots_after : (slots now others : Slots) (m n : ℕ) (cases : List Branch) (first : Option Branch) → m ≡ n → n < length slots → now ≡ slots ++ others →
    first ≡ first_case cases → others ≡ other_cases cases → slice_set now m first ≡ after slots n cases
slots_after slots now others m n cases first m_is below now_is first_is others_is =
    let same : slice_set now m first ≡ slice_set (slots ++ other_cases cases) n (first_case cases) = cc (m_is, now_is, first_is, others_is) in
    same ∙ put_after slots n (get_or slots n None) cases (slice_get-get_or slots n None below)

-- ---- where the step's branch was taken away before

set_long : {X : Type 0} (xs : List X) (n : ℕ) (x : X) → length (slice_set xs n x) ≡ length xs
set_long [] n x = refl
set_long (z ∷ xs) zero x = refl
set_long (z ∷ xs) (suc n) x = ap suc (set_long xs n x)

after_set : (slots : Slots) (n : ℕ) (x : Option Branch) (cases : List Branch) → after (slice_set slots n x) n cases ≡ after slots n cases
after_set slots n x [] = set_twice slots n x None
after_set slots n x (b ∷ others) = ap (λ l. l ++ other_cases (b ∷ others)) (set_twice slots n x (Some b))

pub leads_taken : (p : Problem) (slots : Slots) (m : ℕ) (taken : Option Branch) (step : Step) (cases : List Branch) → m ≡ branch_of step → taken ≡ open_at slots m → LeadsAt p taken step cases →
    LeadsAt p (open_at slots (branch_of step)) step cases
leads_taken p slots m taken step cases m_is taken_is leads =
    subst (λ n. LeadsAt p (open_at slots n) step cases) m_is (subst (λ it. LeadsAt p it step cases) taken_is leads)

pub below_taken : (p : Problem) (slots now : Slots) (m : ℕ) (step : Step) (cases : List Branch) → now ≡ slice_set slots m None → LeadsAt p (open_at slots (branch_of step)) step cases →
    branch_of step < length now
below_taken p slots now m step cases now_is leads =
    let l = led p slots (branch_of step) step cases leads in
    let within = slice_get_within slots (branch_of step) (Some l.branch) l.open_ in
    let long = ap length now_is ∙ set_long slots m None in
    omega (arith, within, long)

pub after_taken : (slots now left : Slots) (m n : ℕ) (cases : List Branch) → m ≡ n → now ≡ slice_set slots m None → left ≡ after now n cases → left ≡ after slots n cases
after_taken slots now left m n cases m_is now_is left_is =
    left_is ∙ (ap (λ (it : Slots). after it n cases) (now_is ∙ ap (λ i. slice_set slots i None) m_is) ∙ after_set slots n None cases)

taken_back : (slots others : Slots) → take (length slots) (slots ++ others) ≡ slots
taken_back [] others = refl
taken_back (x ∷ slots) others = ap (λ l. x ∷ l) (taken_back slots others)

pub slots_back : (slots now others : Slots) (count : ℕ) → now ≡ slots ++ others → count ≡ length slots → take count now ≡ slots
slots_back slots now others count now_is count_is = cc (now_is, count_is, taken_back slots others)

plain_course : (p : Problem) (taken then : List Step) (slots left : Slots) (step : Step) (cases : List Branch) → IsCourse (record { problem = p; steps = taken; slots = slots }) →
    then ≡ taken ++ step ∷ [] → left ≡ after slots (branch_of step) cases → length taken < most_steps → LeadsAt p (open_at slots (branch_of step)) step cases →
    IsCourse (record { problem = p; steps = then; slots = left })
plain_course p taken then slots left step cases course then_is left_is few h =
    let l = led p slots (branch_of step) step cases h in
    let takes : Takes p slots step left = record { branch = l.branch; open_ = l.open_; cases = cases; leads = l.leads; new_is = left_is } in
    let runs : Runs p (taken ++ step ∷ []) left = next course.runs takes in
    let count = ap length then_is ∙ length-append taken (step ∷ []) in
    let long : length then ≤ most_steps = omega (arith, count, few) in
    let made = leads_few p course.fits l.branch step cases l.leads in
    let more = after_few slots (branch_of step) cases in
    let numbers : length left ≤ 32 * (1 + length then) = omega (arith, count, made, more, ap length left_is, course.numbers) in
    record { fits = course.fits; few = long; numbers = numbers; runs = subst (λ l. Runs p l left) (sym then_is) runs }

pub put_course : (k : Course) (p : Problem) (taken then : List Step) (slots left : Slots) (step : Step) (cases : List Branch) →
    record { problem = p; steps = taken; slots = slots } ≡ k → IsCourse (record { problem = p; steps = taken; slots = slots }) →
    then ≡ taken ++ step ∷ [] → left ≡ after slots (branch_of step) cases → length k.steps < most_steps →
    LeadsAt k.problem (open_at k.slots (branch_of step)) step cases → IsCourse (record { problem = p; steps = then; slots = left })
put_course k p taken then slots left step cases view course then_is left_is =
    subst (λ q. length q.steps < most_steps → LeadsAt q.problem (open_at q.slots (branch_of step)) step cases → IsCourse (record { problem = p; steps = then; slots = left })) view
    (plain_course p taken then slots left step cases course then_is left_is)

pub same_course : (p : Problem) (taken then : List Step) (slots left : Slots) → left ≡ slots → then ≡ taken → IsCourse (record { problem = p; steps = taken; slots = slots }) →
    IsCourse (record { problem = p; steps = then; slots = left })
same_course p taken then slots left left_is then_is course =
    subst (λ l. IsCourse (record { problem = p; steps = l; slots = left })) (sym then_is)
    (subst (λ l. IsCourse (record { problem = p; steps = taken; slots = l })) (sym left_is) course)

-- the step was taken, or nothing changed
pub stepped : {X Y : Type 0} (result : Result X Y) (k : Course) (p : Problem) (taken then : List Step) (slots left : Slots) (step : Step) (cases : List Branch) →
    record { problem = p; steps = taken; slots = slots } ≡ k → IsCourse (record { problem = p; steps = taken; slots = slots }) → length k.steps < most_steps →
    LeadsAt k.problem (open_at k.slots (branch_of step)) step cases → OnOk result (left ≡ after slots (branch_of step) cases) → OnOk result (then ≡ taken ++ step ∷ []) →
    OnErr result ((left ≡ slots) × (then ≡ taken)) → IsCourse (record { problem = p; steps = then; slots = left })
stepped (Ok u) k p taken then slots left step cases view course few leads slots_are steps_are same =
    put_course k p taken then slots left step cases view course steps_are slots_are few leads
stepped (Err e) k p taken then slots left step cases view course few leads slots_are steps_are same =
    same_course p taken then slots left same.0 same.1 course

pub below : (k : Course) (p : Problem) (taken : List Step) (slots : Slots) (step : Step) (cases : List Branch) → record { problem = p; steps = taken; slots = slots } ≡ k →
    LeadsAt k.problem (open_at k.slots (branch_of step)) step cases → branch_of step < length slots
below k p taken slots step cases view =
    subst (λ q. LeadsAt q.problem (open_at q.slots (branch_of step)) step cases → branch_of step < length slots) view
    (λ h. let l = led p slots (branch_of step) step cases h in slice_get_within slots (branch_of step) (Some l.branch) l.open_)

pub put_takes : (p : Problem) (slots new : Slots) (step : Step) (cases : List Branch) → LeadsAt p (open_at slots (branch_of step)) step cases → new ≡ after slots (branch_of step) cases → Takes p slots step new
put_takes p slots new step cases h new_is =
    let l = led p slots (branch_of step) step cases h in
    record { branch = l.branch; open_ = l.open_; cases = cases; leads = l.leads; new_is = new_is }

pub there : (p : Problem) (slots : Slots) (n : ℕ) (step : Step) (cases : List Branch) → LeadsAt p (open_at slots n) step cases → (x : Option Branch) × (slice_get slots n ≡ Some x)
there p slots n step cases h = let l = led p slots n step cases h in (Some l.branch, l.open_)

open_slot : (slots : Slots) (n : ℕ) (b : Branch) (slot : Option (Option Branch)) → slice_get slots n ≡ slot → Some b ≡ Rattle.std.specs.Prelude.option_and_then (λ it. it) slot → IsOpen slots n b
open_slot slots n b None e h = cc
open_slot slots n b (Some None) e h = cc
open_slot slots n b (Some (Some c)) e h = e ∙ ap Some (sym h)

pub tidy_open : (k : Course) (p : Problem) (taken : List Step) (slots : Slots) (n : ℕ) (b : Branch) → record { problem = p; steps = taken; slots = slots } ≡ k → RunsAreTidy →
    IsCourse (record { problem = p; steps = taken; slots = slots }) → Some b ≡ open_at k.slots n → IsTidy p b
tidy_open k p taken slots n b view tidy course =
    subst (λ q. Some b ≡ open_at q.slots n → IsTidy p b) view (λ h. tidy p taken slots course.fits course.runs n b (open_slot slots n b (slice_get slots n) refl h))

-- ---- the start, what is put back, and the end

first_course : (p : Problem) (slots : Slots) → ProblemFits p → IsStart p slots → IsCourse (record { problem = p; steps = []; slots = slots })
first_course p slots fits is_start =
    let started = start_few p fits slots is_start in
    let numbers : length slots ≤ 32 * (1 + 0) = omega (arith, started) in
    record { fits = fits; few = omega (arith); numbers = numbers; runs = start is_start }

pub start_course : (p : Problem) (taken : List Step) (slots : Slots) → ProblemFits p → taken ≡ [] → IsStart p slots → IsCourse (record { problem = p; steps = taken; slots = slots })
start_course p taken slots fits none is_start = subst (λ l. IsCourse (record { problem = p; steps = l; slots = slots })) (sym none) (first_course p slots fits is_start)
