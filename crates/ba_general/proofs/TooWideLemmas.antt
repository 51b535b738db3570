-- What is kept of a proof is determined, so none that is too wide has a template.
use Rattle.std.proofs.Common.{◌≡◌, ℕ, ◌+◌, ◌≤◌, List, length, sym, subst, arith}
use Rattle.std.proofs.lemmas.Cmp.{nat_cmp_total}
use Rattle.std.proofs.lemmas.Map.Lookups.{exact_unsigned}
use Rattle.ba_model.proofs.UniqueLemmas.{same_sorted}
use Rattle.ba_kernel.specs.declared.problem.Problem.{Problem}
use Rattle.ba_kernel.specs.declared.step.Step.{Step}
use Rattle.ba_general.proofs.OnePatternLemmas.{pattern_one}
use Rattle.ba_general.proofs.OneRestLemmas.{kept_one}
use Rattle.ba_general.proofs.StayingLemmas.{kept_names, no_longer}
use Rattle.ba_general.specs.Generals.{IsTooWide, TooWideIsNone}
use Rattle.ba_general.specs.Patterns.{IsPattern}
use Rattle.ba_general.specs.Retold.{AreNamed}
use Rattle.ba_model.specs.Limits.{most_entries, most_operands}

-- the numbers that steps name are determined
numbers_one : (taken : List Step) (xs ys : List ℕ) → AreNamed taken xs → AreNamed taken ys → xs ≡ ys
numbers_one taken xs ys h k =
    same_sorted nat_cmp_total exact_unsigned xs ys h.rising k.rising (λ q there. (k.exact q).1 ((h.exact q).0 there)) (λ q there. (h.exact q).1 ((k.exact q).0 there))

pub too_wide_none : TooWideIsNone
too_wide_none proof template (IsTooWide.by_cases (numbers, of, many)) it =
    let few : length numbers ≤ length it.numbers =
    no_longer numbers it.numbers of.rising it.keeps.named.rising
    (λ n there. (it.keeps.named.exact n).1 (kept_names proof.problem proof.steps it.kept n it.keeps.steps ((of.exact n).0 there))) in
    absurd (omega (arith, many, few, it.few_entries))
too_wide_none proof template (IsTooWide.by_entries {kept = kept} {numbers = numbers} steps named many) it =
    let kept_same : kept ≡ it.kept = kept_one proof.problem proof.steps kept it.kept steps it.keeps.steps in
    let numbers_same : numbers ≡ it.numbers = numbers_one it.kept numbers it.numbers (subst (λ taken. AreNamed taken numbers) kept_same named) it.keeps.named in
    let few : length numbers ≤ most_entries = subst (λ ns. length ns ≤ most_entries) (sym numbers_same) it.few_entries in
    absurd (omega (arith, many, few))
too_wide_none proof template (IsTooWide.by_operands {kept = kept} {numbers = numbers} {g = g} {values = values} keeps many) it =
    let kept_same : kept ≡ it.kept = kept_one proof.problem proof.steps kept it.kept keeps.steps it.keeps.steps in
    let numbers_same : numbers ≡ it.numbers = numbers_one it.kept numbers it.numbers (subst (λ taken. AreNamed taken numbers) kept_same keeps.named) it.keeps.named in
    let pattern : IsPattern proof.problem it.numbers g values = subst (λ ns. IsPattern proof.problem ns g values) numbers_same keeps.pattern in
    let same = pattern_one proof.problem it.numbers g it.pattern values it.values pattern it.keeps.pattern in
    let few : length g.vars + length g.policy.params ≤ most_operands =
    subst (λ (q : Problem). length q.vars + length q.policy.params ≤ most_operands) (sym same.0) it.few_operands in
    absurd (omega (arith, many, few))
