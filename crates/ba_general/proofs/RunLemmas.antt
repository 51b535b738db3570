-- The halves of a run: what is still kept of each, and the same run of equal lists.
use Rattle.std.proofs.Common.{◌≡◌, ℕ, ◌+◌, ◌-◌, ◌/◌, ◌≤◌, Bool, List, length, take, drop, sym, ap, ◌∙◌, subst, arith}
use Rattle.std.proofs.lemmas.List.{drop-take}
use Rattle.ba_kernel.specs.declared.problem.Problem.{Problem}
use Rattle.ba_kernel.specs.declared.step.Step.{Step}
use Rattle.ba_model.specs.declared.query.Atom.{Atom}
use Rattle.ba_general.proofs.DroppingLemmas.{all_right, all_left, between_two}
use Rattle.ba_general.specs.Dropping.{AllKept, DropsRun, IsAccepted, between}

-- the middle of a run
pub middle_in : (first end middle : ℕ) → first ≤ end → middle ≡ first + (end - first) / 2 → (first ≤ middle) × (middle ≤ end)
middle_in first end middle from is = (omega (arith, is), omega (arith, from, is))

-- ---- what is kept of a part

pub back_kept : (old : List Bool) (first middle end : ℕ) → first ≤ middle → middle ≤ end → end ≤ length old → AllKept (between first end old) →
    AllKept (between middle end old)
back_kept old first middle end fm me there all =
    all_right (between first middle old) (between middle end old) (subst AllKept (between_two old first middle end fm me there) all)

pub front_kept : (old mid : List Bool) (first middle end : ℕ) → first ≤ middle → middle ≤ end → end ≤ length old → AllKept (between first end old) →
    take middle mid ≡ take middle old → AllKept (between first middle mid)
front_kept old mid first middle end fm me there all same =
    let e : first + (middle - first) ≡ middle = omega arith in
    let part : (ks : List Bool) → drop first (take middle ks) ≡ between first middle ks =
    λ ks. ap (λ n. drop first (take n ks)) (sym e) ∙ drop-take first (middle - first) ks in
    let is : between first middle mid ≡ between first middle old = sym (part mid) ∙ (ap (drop first) same ∙ part old) in
    subst AllKept (sym is) (all_left (between first middle old) (between middle end old) (subst AllKept (between_two old first middle end fm me there) all))

-- ---- the same run

pub run_moved : (g h : Problem) (taken others : List Step) (atoms some : List Atom) (old mid new : List Bool) (first end : ℕ) → g ≡ h → taken ≡ others → atoms ≡ some →
    old ≡ mid → DropsRun (IsAccepted g taken) atoms old new first end → DropsRun (IsAccepted h others) some mid new first end
run_moved g h taken others atoms some old mid new first end p q r s run =
    subst (λ x. DropsRun (IsAccepted x others) some mid new first end) p
    (subst (λ x. DropsRun (IsAccepted g x) some mid new first end) q
    (subst (λ x. DropsRun (IsAccepted g taken) x mid new first end) r
    (subst (λ x. DropsRun (IsAccepted g taken) atoms x new first end) s run)))
