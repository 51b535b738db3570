-- What a check comes to, from what a replay of the same steps comes to.
use Rattle.std.proofs.Common.{◌≡◌, ◌∙◌, ℕ, ◌+◌, ◌<◌, zero, suc, List, [], ◌∷◌, ◌++◌, true, false, cond, length, take, refl, sym, ap, subst, arith}
use Rattle.std.specs.List.{AllByRecursion}
use Rattle.std.specs.Prelude.{IfErr, IfOk, Option, Some, None, Result, Ok, Err, is_some, option_map}
use Rattle.std.proofs.lemmas.List.Elements.{All-from_recursion, recursion_from_All}
use Rattle.std.proofs.lemmas.List.Sums.{sum_by-cons}
use Rattle.ba_model.specs.declared.failure.Failure.{Failure}
use Rattle.ba_model.specs.declared.failure.Failure.TheVariants.{NoMemory, Fault}
use Rattle.ba_facts.specs.declared.branch.Branch.{Branch}
use Rattle.ba_model.specs.Readings.{OfFault}
use Rattle.ba_kernel.specs.Courses.{AllClosed, ClosedIsStrong, ProblemFits, Slots}
use Rattle.ba_kernel.specs.Problems.{ProblemIsQuestion, StrongAll}
use Rattle.ba_kernel.specs.Replays.{ReplaysHaveOneEnd}
use Rattle.ba_kernel.specs.Replays as replays
use Rattle.ba_kernel.specs.SearchStates.{Course, IsCourse, Proof, open_at}
use Rattle.ba_kernel.specs.declared.problem.Problem.{Problem}
use Rattle.ba_kernel.specs.declared.replaying.ReplayFault.TheVariants as replay
use Rattle.ba_kernel.specs.declared.step.Step.{Step}
use Rattle.ba_kernel.proofs.ReplayLemmas as lemmas
use Rattle.ba_proof.specs.Checked.{AcceptedIsStrong, Checks, HasFault, IsNextFault, IsStrongQuestion, LeavesOpen, open_count}
use Rattle.ba_proof.specs.declared.checking.CheckFault.{CheckFault}
use Rattle.ba_proof.specs.declared.checking.CheckFault.TheVariants.{NotShown, StillOpen}

-- a step is refused, or want of memory is told of it
pub refused : (c : Course) (p : Problem) (steps yielded rest : List Step) (step : Step) (e : Failure CheckFault) → c.problem ≡ p → c.steps ≡ yielded →
    steps ≡ yielded ++ step ∷ rest → IsNextFault c step e → Checks p steps (Err e)
refused c p steps yielded rest step NoMemory of so_far whole h = lemmas.refused c p steps yielded rest step NoMemory of so_far whole h
refused c p steps yielded rest step (Fault (StillOpen n)) of so_far whole h = absurd h
refused c p steps yielded rest step (Fault (NotShown n fault)) of so_far whole h = lemmas.refused c p steps yielded rest step (Fault (replay.Refused n fault)) of so_far whole h

-- ---- open branches

count_next : (slot : Option Branch) (slots : Slots) → open_count (slot ∷ slots) ≡ cond (is_some slot) 1 0 + open_count slots
count_next slot slots = sum_by-cons (λ it. cond (is_some it) 1 0) slot slots

closed_none : (slots : Slots) → AllByRecursion (λ slot. slot ≡ None) slots → open_count slots ≡ 0
closed_none [] h = refl
closed_none (None ∷ slots) h = let next = count_next None slots in let rest = closed_none slots h.1 in omega (arith, next, rest)
closed_none (Some b ∷ slots) h = cc h.0

none_closed : (slots : Slots) → open_count slots ≡ 0 → AllByRecursion (λ slot. slot ≡ None) slots
none_closed [] h = tt
none_closed (None ∷ slots) h = let next = count_next None slots in (refl, none_closed slots (omega (arith, next, h)))
none_closed (Some b ∷ slots) h = let next = count_next (Some b) slots in absurd (omega (arith, next, h))

open_more : (slots : Slots) (n : ℕ) → n < length slots → open_count (take (suc n) slots) ≡ open_count (take n slots) + cond (is_some (open_at slots n)) 1 0
open_more [] n h = absurd (omega (arith, h))
open_more (slot ∷ slots) zero h = let next = count_next slot [] in omega (arith, next)
open_more (slot ∷ slots) (suc n) h =
    let rest = open_more slots n (omega (arith, h)) in
    let longer = count_next slot (take (suc n) slots) in
    let shorter = count_next slot (take n slots) in
    omega (arith, rest, longer, shorter)

so_far_then : (slots : Slots) (n count : ℕ) → count ≡ open_count (take (suc n) slots) → count ≡ open_count (take (n + 1) slots)
so_far_then slots n count e = let same : suc n ≡ n + 1 = omega arith in e ∙ ap (λ m. open_count (take m slots)) same

-- one more that is open, and one more that is closed
pub one_open : (slots : Slots) (n count : ℕ) → n < length slots → is_some (open_at slots n) ≡ true → count ≡ open_count (take n slots) → count + 1 ≡ open_count (take (n + 1) slots)
one_open slots n count lt is so_far =
    let more = open_more slots n lt in
    let one : ◌≡◌ {A = ℕ} (cond (is_some (open_at slots n)) 1 0) 1 = ap (λ b. cond b 1 0) is in
    so_far_then slots n (count + 1) (omega (arith, more, one, so_far))

pub none_open : (slots : Slots) (n count : ℕ) → n < length slots → is_some (open_at slots n) ≡ false → count ≡ open_count (take n slots) → count ≡ open_count (take (n + 1) slots)
none_open slots n count lt is so_far =
    let more = open_more slots n lt in
    let none : ◌≡◌ {A = ℕ} (cond (is_some (open_at slots n)) 1 0) 0 = ap (λ b. cond b 1 0) is in
    so_far_then slots n count (omega (arith, more, none, so_far))

-- where some branch isn't closed there are open ones
pub some_open : (slots : Slots) → ¬ (AllClosed slots) → 0 < open_count slots
some_open slots h = by (open_count slots) refl
  where
    by : (n : ℕ) → open_count slots ≡ n → 0 < open_count slots
    by zero e = absurd (h (All-from_recursion (λ slot. slot ≡ None) slots (none_closed slots e)))
    by (suc n) e = omega (arith, e)

-- where there are open ones not all are closed
pub not_closed : (slots : Slots) → 0 < open_count slots → ¬ (AllClosed slots)
not_closed slots some closed = let none = closed_none slots (recursion_from_All (λ slot. slot ≡ None) slots closed) in absurd (omega (arith, none, some))

pub stays_open : (c : Course) (p : Problem) (steps : List Step) (n : ℕ) → c.problem ≡ p → c.steps ≡ steps → IsCourse c → ¬ (AllClosed c.slots) → n ≡ open_count c.slots →
    LeavesOpen p steps n
stays_open c p steps n of all course open_ count =
    let own : LeavesOpen c.problem c.steps n = record { slots = c.slots; runs = course.runs; count = count; some = subst (λ m. 0 < m) (sym count) (some_open c.slots open_) } in
    subst (λ q. LeavesOpen q steps n) of (subst (λ xs. LeavesOpen c.problem xs n) all own)

-- ---- a fault of a check is one of the replay

pub has_no_end : (p : Problem) (steps : List Step) (fault : CheckFault) → replays.HasOneEnd p steps → HasFault p steps fault → ¬ (replays.Closes p steps)
has_no_end p steps (NotShown n fault) one h closes = one.no_fault (replay.Refused n fault) closes h
has_no_end p steps (StillOpen n) one h closes =
    one.no_fault replay.Open closes (record { slots = h.slots; runs = h.runs; open_ = not_closed h.slots (subst (λ m. 0 < m) h.count h.some) })

-- ---- what a check's answer says

pub is_refused : ReplaysHaveOneEnd → (p : Problem) (steps : List Step) (r : Result Proof (Failure CheckFault)) → ProblemFits p → Checks p steps r
    → IfErr r (λ e. OfFault e (λ fault. ¬ (replays.Closes p steps)))
is_refused one p steps (Ok proof) fits h = tt
is_refused one p steps (Err NoMemory) fits h = tt
is_refused one p steps (Err (Fault fault)) fits h = has_no_end p steps fault (one p steps fits) h

pub is_strong : ClosedIsStrong → ProblemIsQuestion → (p : Problem) (steps : List Step) (r : Result Proof (Failure CheckFault)) → ProblemFits p → Checks p steps r
    → IfOk r (λ proof. IsStrongQuestion p)
is_strong closed question p steps (Ok proof) fits h =
    λ policy c trace q context e. question policy c trace q context (subst StrongAll e (closed p steps h.0.slots fits h.0.runs h.0.closed))
is_strong closed question p steps (Err e) fits h = tt

pub accepted_strong : AcceptedIsStrong
accepted_strong policy p asked strong = strong policy asked.context asked.trace asked.query asked.fits.context asked.is

pub is_some_map : {A B : Type 0} (f : A → B) (o : Option A) → is_some (option_map f o) ≡ is_some o
is_some_map f None = refl
is_some_map f (Some x) = refl
