-- What holds of the steps that stay.
use Rattle.std.proofs.Common.{◌≡◌, ℕ, zero, suc, ◌+◌, ◌-◌, ◌<◌, ◌≤◌, List, [], ◌∷◌, length, take, drop, replicate, refl, sym, ap, ◌∙◌, subst, arith}
use Rattle.std.specs.Prelude.{IfOk, Option, Some, None, Result, Ok, Err}
use Rattle.std.specs.declared.alloc.AllocError.{AllocError}
use Rattle.std.proofs.lemmas.List.{length-append, take-append-drop}
use Rattle.ba_kernel.specs.Courses.{branch_of}
use Rattle.ba_kernel.specs.Replays.{Closes}
use Rattle.ba_kernel.specs.declared.problem.Problem.{Problem}
use Rattle.ba_kernel.specs.declared.step.Step.{Step}
use Rattle.ba_general.proofs.OneRestLemmas.{rest_one}
use Rattle.ba_general.specs.Layouts.{Layout, layout_after, start_layout}
use Rattle.ba_general.specs.Leaving.{AreOthers, CanNotBeLeftOut, Gaps, IsLeftOut, IsTried, IsWithout, Leaves, MaybeIs, gaps_after, gaps_with, made, made_from, middle}
use Rattle.ba_general.specs.declared.making.Made.{Made}

-- ---- how many

from_wide : (p : Problem) (layout : Layout) (taken : List Step) → length (made_from p layout taken) ≡ length taken
from_wide p layout [] = refl
from_wide p layout (step ∷ later) = ap suc (from_wide p (layout_after p layout step) later)

pub made_wide : (p : Problem) (taken : List Step) (its : List Made) → its ≡ made p taken → length its ≡ length taken
made_wide p taken its e = ap length e ∙ from_wide p (start_layout p) taken

others_few : (gaps : Gaps) (left : ℕ) (later : List Step) (its : List Made) (rest : List Step) → AreOthers gaps left later its rest → length rest ≤ length later
others_few gaps left [] its rest (AreOthers.none) = omega arith
others_few gaps zero (step ∷ later) [] rest h = elim h [ ]
others_few gaps (suc left) (step ∷ later) [] rest h = elim h [ ]
others_few gaps (suc left) (step ∷ later) (it ∷ its) rest (AreOthers.gone {gap = gap} e h) =
    let more : length rest ≤ length later = others_few (gaps_with gaps (branch_of step) gap) left later its rest h in omega (arith, more)
others_few gaps zero (step ∷ later) (it ∷ its) all (AreOthers.stays {moved = moved} {rest = rest} m h) =
    let more : length rest ≤ length later = others_few (gaps_after gaps step it) zero later its rest h in omega (arith, more)

take_front : {X : Type 0} (n first : ℕ) (xs : List X) → n ≤ first → n ≤ length xs → n ≤ length (take first xs)
take_front zero first xs h k = omega arith
take_front (suc n) zero xs h k = absurd (omega (arith, h))
take_front (suc n) (suc first) [] h k = absurd (omega (arith, k))
take_front (suc n) (suc first) (x ∷ xs) h k =
    let less : n ≤ first = omega (arith, h) in
    let there : n ≤ length xs = omega (arith, k) in
    let more : n ≤ length (take first xs) = take_front n first xs less there in
    omega (arith, more)

pub without_few : (taken : List Step) (its : List Made) (first end : ℕ) (rest : List Step) → IsWithout taken its first end rest → length rest ≤ length taken
without_few taken its first end rest w =
    let wide : length rest ≡ length (take first taken) + length w.moved = ap length w.rest_is ∙ length-append (take first taken) w.moved in
    let all : length (take first taken) + length (drop first taken) ≡ length taken =
    sym (length-append (take first taken) (drop first taken)) ∙ ap length (take-append-drop first taken) in
    let few : length w.moved ≤ length (drop first taken) =
    others_few (replicate w.it.before None) (end - first) (drop first taken) (drop first its) w.moved w.others in
    omega (arith, wide, all, few)

without_front : (taken : List Step) (its : List Made) (first end n : ℕ) (rest : List Step) → IsWithout taken its first end rest → n ≤ first → n ≤ length taken → n ≤ length rest
without_front taken its first end n rest w less there =
    let wide : length rest ≡ length (take first taken) + length w.moved = ap length w.rest_is ∙ length-append (take first taken) w.moved in
    let front : n ≤ length (take first taken) = take_front n first taken less there in
    omega (arith, wide, front)

module _ (p : Problem) where
  pub leaves_few : (taken : List Step) (first end : ℕ) (kept : List Step) → Leaves p taken first end kept → length kept ≤ length taken
  leaves_few taken first end kept (Leaves.none e) = omega arith
  leaves_few taken first end kept (Leaves.out less out) = without_few taken (made p taken) first end kept out.without
  leaves_few taken first end kept (Leaves.stays one none) = omega arith
  leaves_few taken first end kept (Leaves.halves {half = half} more none back front) =
      let one : length half ≤ length taken = leaves_few taken (middle first end) end half back in
      let two : length kept ≤ length half = leaves_few half first (middle first end) kept front in
      omega (arith, one, two)

  -- what is before them stays
  pub leaves_front : (taken : List Step) (first end n : ℕ) (kept : List Step) → Leaves p taken first end kept → n ≤ first → n ≤ length taken → n ≤ length kept
  leaves_front taken first end n kept (Leaves.none e) less there = there
  leaves_front taken first end n kept (Leaves.out some out) less there = without_front taken (made p taken) first end n kept out.without less there
  leaves_front taken first end n kept (Leaves.stays one none) less there = there
  leaves_front taken first end n kept (Leaves.halves {half = half} more none back front) less there =
      let below : n ≤ middle first end = omega (arith, less) in
      let one : n ≤ length half = leaves_front taken (middle first end) end n half back below there in
      leaves_front half first (middle first end) n kept front less one

  pub leaves_closes : (taken : List Step) (first end : ℕ) (kept : List Step) → Closes p taken → Leaves p taken first end kept → Closes p kept
  leaves_closes taken first end kept closes (Leaves.none e) = closes
  leaves_closes taken first end kept closes (Leaves.out less out) = out.closes
  leaves_closes taken first end kept closes (Leaves.stays one none) = closes
  leaves_closes taken first end kept closes (Leaves.halves {half = half} more none back front) =
      leaves_closes half first (middle first end) kept (leaves_closes taken (middle first end) end half closes back) front

-- ---- what is tried

pub none_without : (p : Problem) (taken : List Step) (its : List Made) (first end : ℕ) → its ≡ made p taken → ((rest : List Step) → ¬ (IsWithout taken its first end rest)) →
    CanNotBeLeftOut p taken first end
none_without p taken its first end e none rest h = none rest (subst (λ ms. IsWithout taken ms first end rest) (sym e) h.without)

pub tried_is : (p : Problem) (taken : List Step) (its : List Made) (first end : ℕ) (rest : List Step) (told : Option (List Step)) → its ≡ made p taken →
    IsWithout taken its first end rest → IsTried p rest told → MaybeIs (IsLeftOut p taken first end) told
tried_is p taken its first end rest None e without open_ =
    λ other h. open_ (subst (Closes p) (rest_one taken (made p taken) first end other rest h.without (subst (λ ms. IsWithout taken ms first end rest) e without)) h.closes)
tried_is p taken its first end rest (Some same) e without closes =
    record {
      without = subst (IsWithout taken (made p taken) first end) (sym closes.1) (subst (λ ms. IsWithout taken ms first end rest) e without);
      closes = subst (Closes p) (sym closes.1) closes.0;
    }

pub tried_gives : (p : Problem) (taken : List Step) (its : List Made) (first end : ℕ) (rest : List Step) (told : Result (Option (List Step)) AllocError) → its ≡ made p taken →
    IsWithout taken its first end rest → IfOk told (IsTried p rest) → IfOk told (MaybeIs (IsLeftOut p taken first end))
tried_gives p taken its first end rest (Ok told) e without h = tried_is p taken its first end rest told e without h
tried_gives p taken its first end rest (Err e2) e without h = tt

-- ---- what is left

pub out_leaves : (p : Problem) (taken rest kept : List Step) (first end : ℕ) → first < end → IsLeftOut p taken first end rest → kept ≡ rest → Leaves p taken first end kept
out_leaves p taken rest kept first end some out e = subst (Leaves p taken first end) (sym e) (Leaves.out some out)
