-- Steps that are taken in turn from a problem's start come to one end.
use Rattle.std.proofs.Common.{◌≡◌, ◌∙◌, ℕ, zero, suc, ◌<◌, inl, inr, List, [], ◌∷◌, ◌++◌, length, take, refl, sym, ap, ap₂, subst, arith}
use Rattle.std.proofs.Math.Nat.{eq-or-lt_of_le}
use Rattle.std.proofs.lemmas.Bool.{cases_lt}
use Rattle.std.proofs.lemmas.List.{length-append, take-append-le}
use Rattle.std.proofs.lemmas.Option.{same_Some, slice_get_within}
use Rattle.std.specs.Prelude.{Option, Some, None, slice_get}
use Rattle.ba_facts.specs.declared.branch.Branch.{Branch}
use Rattle.ba_kernel.proofs.OneCase.{leads_pass, some_inj, start_one, takes_one}
use Rattle.ba_kernel.proofs.OneFault.{one_fault}
use Rattle.ba_kernel.proofs.TestLemmas.{not_both}
use Rattle.ba_kernel.specs.Courses.{AllClosed, ProblemFits, Runs, Slots, Takes, branch_of, next, start}
use Rattle.ba_kernel.specs.Replays.{Closes, HasFault, RefusesAt, ReplaysHaveOneEnd}
use Rattle.ba_kernel.specs.SearchStates.{IsRefusedAt, open_at}
use Rattle.ba_kernel.specs.declared.problem.Problem.{Problem}
use Rattle.ba_kernel.specs.declared.replaying.ReplayFault.{ReplayFault}
use Rattle.ba_kernel.specs.declared.replaying.ReplayFault.TheVariants.{Refused, Open}
use Rattle.ba_kernel.specs.declared.step.Step.{Step}
use Rattle.ba_kernel.specs.declared.step.StepFault.{StepFault}

-- ---- the last of a list

snoc_some : {X : Type 0} (xs : List X) (x : X) → [] ≡ xs ++ x ∷ [] → ⊥
snoc_some [] x e = cc
snoc_some (y ∷ xs) x e = cc

snoc_front : {X : Type 0} (xs ys : List X) (x y : X) → xs ++ x ∷ [] ≡ ys ++ y ∷ [] → xs ≡ ys
snoc_front [] [] x y e = refl
snoc_front [] (z ∷ ys) x y e = let rest : [] ≡ ys ++ y ∷ [] = cc in absurd (snoc_some ys y rest)
snoc_front (z ∷ xs) [] x y e = let rest : [] ≡ xs ++ x ∷ [] = cc in absurd (snoc_some xs x rest)
snoc_front (z ∷ xs) (w ∷ ys) x y e =
    let first : z ≡ w = cc in
    let rest : xs ++ x ∷ [] ≡ ys ++ y ∷ [] = cc in
    ap₂ (λ v vs. v ∷ vs) first (snoc_front xs ys x y rest)

snoc_last : {X : Type 0} (xs ys : List X) (x y : X) → xs ++ x ∷ [] ≡ ys ++ y ∷ [] → x ≡ y
snoc_last [] [] x y e = cc
snoc_last [] (z ∷ ys) x y e = let rest : [] ≡ ys ++ y ∷ [] = cc in absurd (snoc_some ys y rest)
snoc_last (z ∷ xs) [] x y e = let rest : [] ≡ xs ++ x ∷ [] = cc in absurd (snoc_some xs x rest)
snoc_last (z ∷ xs) (w ∷ ys) x y e = let rest : xs ++ x ∷ [] ≡ ys ++ y ∷ [] = cc in snoc_last xs ys x y rest

last_at : {X : Type 0} (xs : List X) (x : X) → slice_get (xs ++ x ∷ []) (length xs) ≡ Some x
last_at [] x = refl
last_at (y ∷ xs) x = last_at xs x

front_at : {X : Type 0} (xs ys : List X) (n : ℕ) → n < length xs → slice_get (xs ++ ys) n ≡ slice_get xs n
front_at [] ys n below = absurd (omega arith)
front_at (x ∷ xs) ys zero below = refl
front_at (x ∷ xs) ys (suc n) below = front_at xs ys n (omega arith)

front_is : {X : Type 0} (xs : List X) (ys : List X) → take (length xs) (xs ++ ys) ≡ xs
front_is [] ys = refl
front_is (x ∷ xs) ys = ap (λ zs. x ∷ zs) (front_is xs ys)

-- a front of a front
take_short : {X : Type 0} (xs : List X) (m n : ℕ) → m < n → take m (take n xs) ≡ take m xs
take_short xs zero n below = refl
take_short xs (suc m) zero below = absurd (omega arith)
take_short [] (suc m) (suc n) below = refl
take_short (x ∷ xs) (suc m) (suc n) below = ap (λ zs. x ∷ zs) (take_short xs m n (omega arith))

taken_at : {X : Type 0} (xs : List X) (m n : ℕ) → m < n → slice_get (take n xs) m ≡ slice_get xs m
taken_at xs m zero below = absurd (omega arith)
taken_at [] m (suc n) below = refl
taken_at (x ∷ xs) zero (suc n) below = refl
taken_at (x ∷ xs) (suc m) (suc n) below = taken_at xs m n (omega arith)

-- ---- courses

module _ (p : Problem) (fits : ProblemFits p) where
  runs_one : {xs ys : List Step} {slots others : Slots} → Runs p xs slots → Runs p ys others → xs ≡ ys → slots ≡ others
  runs_one (start {slots = slots} h) (start {slots = others} k) e = start_one p slots others h k
  runs_one (start h) (next {taken = ys} {step = y} runs takes) e = absurd (snoc_some ys y e)
  runs_one (next {taken = xs} {step = x} runs takes) (start h) e = absurd (snoc_some xs x (sym e))
  runs_one (next {taken = xs} {step = x} {old = old} {new = new} runs takes) (next {taken = ys} {step = y} {old = other} {new = last} again taking) e =
      let before : old ≡ other = runs_one runs again (snoc_front xs ys x y e) in
      let step : x ≡ y = snoc_last xs ys x y e in
      let at_old = subst (λ slots. Takes p slots y last) (sym before) taking in
      let own = subst (λ s. Takes p old s last) (sym step) at_old in
      takes_one p fits old x new last takes own

  -- what a course had taken before one of its steps, and that step
  record Before (steps : List Step) (n : ℕ) : Type 0 where
    pub old : Slots
    pub new : Slots
    pub step : Step
    pub runs : Runs p (take n steps) old
    pub step_is : slice_get steps n ≡ Some step
    pub takes : Takes p old step new

  before : {steps : List Step} {slots : Slots} → Runs p steps slots → (n : ℕ) → n < length steps → Before steps n
  before (start h) n below = absurd (omega arith)
  before (next {taken = taken} {step = step} {old = old} {new = new} runs takes) n below =
      let long = length-append taken (step ∷ []) in
      elim (cases_lt n (length taken)) [
        | inl less ↦
            let b = before runs n less in
            let front : take n (taken ++ step ∷ []) ≡ take n taken = take-append-le n taken (step ∷ []) (omega arith) in
            record {
              old = b.old;
              new = b.new;
              step = b.step;
              runs = subst (λ xs. Runs p xs b.old) (sym front) b.runs;
              step_is = front_at taken (step ∷ []) n less ∙ b.step_is;
              takes = b.takes;
            }
        | inr most ↦
            let same : length taken ≡ n = omega (arith, long, most, below) in
            record {
              old = old;
              new = new;
              step = step;
              runs = subst (λ m. Runs p (take m (taken ++ step ∷ [])) old) same (subst (λ xs. Runs p xs old) (sym (front_is taken (step ∷ []))) runs);
              step_is = subst (λ m. slice_get (taken ++ step ∷ []) m ≡ Some step) same (last_at taken step);
              takes = takes;
            }
      ]

  -- a step that is accepted isn't refused
  refused_branch : (o : Option (Option Branch)) (b : Branch) (step : Step) (fault : StepFault) → o ≡ Some (Some b) →
      IsRefusedAt p (Rattle.std.specs.Prelude.option_and_then (λ slot. slot) o) step fault → IsRefusedAt p (Some b) step fault
  refused_branch None b step fault e h = cc
  refused_branch (Some None) b step fault e h = cc
  refused_branch (Some (Some c)) b step fault e h =
      let same : c ≡ b = same_Some c b (same_Some (Some c) (Some b) e) in
      subst (λ d. IsRefusedAt p (Some d) step fault) same h

  not_refused : (old new : Slots) (step : Step) (fault : StepFault) → Takes p old step new → IsRefusedAt p (open_at old (branch_of step)) step fault → ⊥
  not_refused old new step fault takes refused =
      not_both p takes.branch step fault (leads_pass p takes.branch step takes.cases takes.leads)
      (refused_branch (slice_get old (branch_of step)) takes.branch step fault takes.open_ refused)

  -- where all steps are accepted none is refused
  run_not_refused : (steps : List Step) (slots : Slots) (n : ℕ) (fault : StepFault) → Runs p steps slots → RefusesAt p steps n fault → ⊥
  run_not_refused steps slots n fault runs h =
      let b = before runs n (slice_get_within steps n h.step h.step_is) in
      let same : b.old ≡ h.slots = runs_one b.runs h.runs refl in
      let step : b.step ≡ h.step = some_inj _ _ _ b.step_is h.step_is in
      let at_slots = subst (λ s. IsRefusedAt p (open_at s (branch_of h.step)) h.step fault) (sym same) h.refused in
      let own = subst (λ s. IsRefusedAt p (open_at b.old (branch_of s)) s fault) (sym step) at_slots in
      not_refused b.old b.new b.step fault b.takes own

  -- no step is refused before the first
  not_before : (steps : List Step) (m n : ℕ) (f g : StepFault) → m < n → RefusesAt p steps m f → RefusesAt p steps n g → ⊥
  not_before steps m n f g below left right =
      let inside = slice_get_within steps n right.step right.step_is in
      let short : take m (take n steps) ≡ take m steps = take_short steps m n below in
      run_not_refused (take n steps) right.slots m f right.runs
      (record {
        slots = left.slots;
        runs = subst (λ xs. Runs p xs left.slots) (sym short) left.runs;
        step = left.step;
        step_is = taken_at steps m n below ∙ left.step_is;
        refused = left.refused;
      })

  one_refused : (b : Option Branch) (step : Step) (f g : StepFault) → IsRefusedAt p b step f → IsRefusedAt p b step g → f ≡ g
  one_refused None step f g left right = left ∙ sym right
  one_refused (Some b) step f g left right = one_fault p b step f g left right

  same_refused : (steps : List Step) (n : ℕ) (f g : StepFault) → RefusesAt p steps n f → RefusesAt p steps n g → f ≡ g
  same_refused steps n f g left right =
      let slots : right.slots ≡ left.slots = runs_one right.runs left.runs refl in
      let step : right.step ≡ left.step = some_inj _ _ _ right.step_is left.step_is in
      let at_slots = subst (λ s. IsRefusedAt p (open_at s (branch_of right.step)) right.step g) slots right.refused in
      let own = subst (λ s. IsRefusedAt p (open_at left.slots (branch_of s)) s g) step at_slots in
      one_refused (open_at left.slots (branch_of left.step)) left.step f g left.refused own

  refuses_one : (steps : List Step) (m n : ℕ) (f g : StepFault) → RefusesAt p steps m f → RefusesAt p steps n g → Refused m f ≡ Refused n g
  refuses_one steps m n f g left right =
      elim (cases_lt m n) [
        | inl less ↦ absurd (not_before steps m n f g less left right)
        | inr most ↦
            elim (eq-or-lt_of_le most) [
              | inl same ↦
                  let own = subst (λ k. RefusesAt p steps k g) same right in
                  ap₂ (λ k fault. Refused k fault) (sym same) (same_refused steps m f g left own)
              | inr less ↦ absurd (not_before steps n m g f less right left)
            ]
      ]

  no_fault : (steps : List Step) (fault : ReplayFault) → Closes p steps → HasFault p steps fault → ⊥
  no_fault steps (Refused number fault) closes h = run_not_refused steps closes.slots number fault closes.runs h
  no_fault steps Open closes h = h.open_ (subst AllClosed (runs_one closes.runs h.runs refl) closes.closed)

  one : (steps : List Step) (fault other : ReplayFault) → HasFault p steps fault → HasFault p steps other → fault ≡ other
  one steps (Refused m f) (Refused n g) left right = refuses_one steps m n f g left right
  one steps (Refused m f) Open left right = absurd (run_not_refused steps right.slots m f right.runs left)
  one steps Open (Refused n g) left right = absurd (run_not_refused steps left.slots n g left.runs right)
  one steps Open Open left right = refl

pub one_end : ReplaysHaveOneEnd
one_end p steps fits = record { no_fault = no_fault p fits steps; one_fault = one p fits steps }
