-- The entries that steps name, and the steps with their places.
use Rattle.std.proofs.Common.{◌≡◌, ℕ, ◌+◌, ◌<◌, ◌≤◌, ◌++◌, ◌⊎◌, inl, inr, List, [], ◌∷◌, length, get_or, take, refl, sym, ap, ◌∙◌, subst, arith, eqb}
use Rattle.std.specs.Prelude.{Some, slice_get}
use Rattle.std.specs.List.{Contains, dedup, flat_map}
use Rattle.std.specs.List.Sorted.{IsPermutation, IsSorted, IsStrictlySortedBy}
use Rattle.std.specs.Ordering.{nat_cmp}
use Rattle.std.proofs.lemmas.List.{take_all}
use Rattle.std.proofs.lemmas.List.Elements.{Contains-append_cases}
use Rattle.std.proofs.lemmas.List.Kept.{Contains-dedup_nat, Contains-from_dedup}
use Rattle.std.proofs.lemmas.List.Sorted.{Contains-permutation, IsPermutation-sym}
use Rattle.std.proofs.lemmas.Grind.{flat_map-append}
use Rattle.std.proofs.lemmas.Map.Keys.{IsStrictlyIncreasing-dedup, sorted_from_strictly_increasing}
use Rattle.std.proofs.lemmas.Option.{slice_get-get_or}
use Rattle.ba_model.proofs.ElementLemmas.{Contains-cases, Contains-flat_map, Contains-head, Contains-into_flat_map, Contains-nil}
use Rattle.ba_kernel.proofs.ZipLemmas.{taken}
use Rattle.ba_kernel.specs.declared.step.Step.{Step}
use Rattle.ba_kernel.specs.declared.step.Step.TheVariants as steps
use Rattle.ba_general.specs.Retold.{AreNamed, IsRenumbered, Names, NamesOneOf, named}

-- ---- what isn't among the first elements

pub not_more : {X : Type 0} (xs : List X) (i : ℕ) (x v : X) → i < length xs → x ≡ get_or xs i x → ¬ (Contains (take i xs) v) → ¬ (x ≡ v) →
    ¬ (Contains (take (i + 1) xs) v)
not_more xs i x v below at none other h =
    elim (Contains-append_cases (take i xs) (x ∷ []) v (subst (λ ys. Contains ys v) (taken xs i x below at) h)) [
      | inl before ↦ none before
      | inr here ↦ elim (Contains-cases x [] v here) [ inl same ↦ other same | inr later ↦ Contains-nil v later ]
    ]

pub not_all : {X : Type 0} (xs : List X) (n : ℕ) (v : X) → length xs ≤ n → ¬ (Contains (take n xs) v) → ¬ (Contains xs v)
not_all xs n v whole none h = none (subst (λ ys. Contains ys v) (sym (take_all n xs whole)) h)

pub found_at : {X : Type 0} (xs : List X) (i : ℕ) (x v : X) → i < length xs → x ≡ get_or xs i x → x ≡ v → slice_get xs i ≡ Some v
found_at xs i x v below at same = slice_get-get_or xs i x below ∙ ap Some (sym at ∙ same)

-- ---- the entries that steps name

named_is : (step : Step) (entry : ℕ) → Contains (named step) entry → (branch : ℕ) × (step ≡ steps.Entry branch entry)
named_is (steps.Entry branch it) entry h =
    elim (Contains-cases it [] entry h) [ inl same ↦ (branch, ap (λ e. steps.Entry branch e) same) | inr later ↦ absurd (Contains-nil entry later) ]
named_is (steps.Key branch key left right) entry h = absurd (Contains-nil entry h)
named_is (steps.Link branch link fact) entry h = absurd (Contains-nil entry h)
named_is (steps.Rule branch rule part facts) entry h = absurd (Contains-nil entry h)
named_is (steps.View branch view part facts) entry h = absurd (Contains-nil entry h)
named_is (steps.Split branch atom) entry h = absurd (Contains-nil entry h)
named_is (steps.Absurd branch) entry h = absurd (Contains-nil entry h)
named_is (steps.Goal branch part facts) entry h = absurd (Contains-nil entry h)

names_one : (taken : List Step) (entry : ℕ) → Contains (flat_map named taken) entry → Names taken entry
names_one taken entry h =
    let w = Contains-flat_map named taken entry h in
    let is = named_is w.0 entry w.2 in
    (is.0, subst (λ step. Contains taken step) is.1 w.1)

one_named : (taken : List Step) (entry : ℕ) → Names taken entry → Contains (flat_map named taken) entry
one_named taken entry (branch, h) = Contains-into_flat_map named taken (steps.Entry branch entry) entry h (Contains-head entry [])

-- sorted, each once
pub all_named : (taken : List Step) (found sorted new : List ℕ) → found ≡ flat_map named taken → IsPermutation found sorted → IsSorted nat_cmp sorted →
    new ≡ dedup eqb sorted → AreNamed taken new
all_named taken found sorted new found_is moved order e =
    record {
      rising = subst (IsStrictlySortedBy nat_cmp) (sym e) (sorted_from_strictly_increasing (dedup eqb sorted) (IsStrictlyIncreasing-dedup sorted order));
      exact = λ entry. (
        (λ h. names_one taken entry
            (subst (λ ns. Contains ns entry) found_is
            (Contains-permutation sorted found entry (IsPermutation-sym found sorted moved) (Contains-from_dedup eqb sorted entry (subst (λ ns. Contains ns entry) e h))))),
        (λ h. subst (λ ns. Contains ns entry) (sym e)
            (Contains-dedup_nat sorted entry (Contains-permutation found sorted entry moved (subst (λ ns. Contains ns entry) (sym found_is) (one_named taken entry h))))),
      );
    }

pub named_more : (taken : List Step) (i : ℕ) (step : Step) (old new : List ℕ) → i < length taken → step ≡ get_or taken i step →
    old ≡ flat_map named (take i taken) → new ≡ old ++ named step → new ≡ flat_map named (take (i + 1) taken)
named_more taken i step old new below at before e =
    e ∙ (ap (λ ns. ns ++ named step) before ∙
    (ap (λ ns. flat_map named (take i taken) ++ ns) (sym (Rattle.std.proofs.Common.append-nil (named step))) ∙
    (sym (flat_map-append named (take i taken) (step ∷ [])) ∙ ap (flat_map named) (sym (Rattle.ba_kernel.proofs.ZipLemmas.taken taken i step below at)))))

-- ---- places

pub among : (taken : List Step) (numbers : List ℕ) (step : Step) → AreNamed taken numbers → Contains taken step → NamesOneOf numbers step
among taken numbers (steps.Entry branch entry) h there = (h.exact entry).1 (branch, there)
among taken numbers (steps.Key branch key left right) h there = tt
among taken numbers (steps.Link branch link fact) h there = tt
among taken numbers (steps.Rule branch rule part facts) h there = tt
among taken numbers (steps.View branch view part facts) h there = tt
among taken numbers (steps.Split branch atom) h there = tt
among taken numbers (steps.Absurd branch) h there = tt
among taken numbers (steps.Goal branch part facts) h there = tt

pub other_stays : (numbers : List ℕ) (step new : Step) → ((branch entry : ℕ) → ¬ (step ≡ steps.Entry branch entry)) → new ≡ step → IsRenumbered numbers step new
other_stays numbers (steps.Entry branch entry) new other e = absurd (other branch entry refl)
other_stays numbers (steps.Key branch key left right) new other e = e
other_stays numbers (steps.Link branch link fact) new other e = e
other_stays numbers (steps.Rule branch rule part facts) new other e = e
other_stays numbers (steps.View branch view part facts) new other e = e
other_stays numbers (steps.Split branch atom) new other e = e
other_stays numbers (steps.Absurd branch) new other e = e
other_stays numbers (steps.Goal branch part facts) new other e = e
