-- A step by an entry of several cases or none stays, whatever is left out.
use Rattle.std.proofs.Common.{◌≡◌, ℕ, zero, suc, inl, inr, ◌∙◌, ◌<◌, ◌≤◌, List, [], ◌∷◌, length, take, drop, refl, sym, ap, subst, arith, eqb}
use Rattle.std.specs.Prelude.{Contains, Bool, true, false, not, nat_eq, Option, Some, None}
use Rattle.std.specs.List.{AllZip, dedup, flat_map}
use Rattle.std.specs.List.Sorted.{IsPermutation, IsSorted, IsStrictlySortedBy}
use Rattle.std.specs.Ordering.{nat_cmp}
use Rattle.std.specs.declared.cmp.Ordering.TheVariants.{Less}
use Rattle.std.proofs.lemmas.Cmp.{ranked}
use Rattle.std.proofs.lemmas.List.{take-append-drop}
use Rattle.std.proofs.lemmas.List.Elements.{All-contains, Contains-append_cases, Contains-append_left, Contains-append_right}
use Rattle.std.proofs.lemmas.List.Kept.{Contains-dedup_nat, Contains-from_dedup}
use Rattle.std.proofs.lemmas.List.Sorted.{Contains-permutation, IsPermutation-sym}
use Rattle.std.proofs.lemmas.Map.Keys.{IsStrictlyIncreasing-dedup, sorted_from_strictly_increasing}
use Rattle.std.proofs.lemmas.Map.Made.{Contains-tail}
use Rattle.std.proofs.lemmas.Map.Views.{All-after_first}
use Rattle.std.proofs.lemmas.Option.{none-some}
use Rattle.ba_model.proofs.ElementLemmas.{Contains-cases, Contains-flat_map, Contains-head, Contains-later, Contains-nil}
use Rattle.ba_model.proofs.UniqueLemmas.{sorted_tail}
use Rattle.ba_model.specs.declared.schema.Schema.{Schema}
use Rattle.ba_kernel.specs.Courses.{branch_of}
use Rattle.ba_kernel.specs.declared.problem.Problem.{Problem}
use Rattle.ba_kernel.specs.declared.step.Step.{Step}
use Rattle.ba_kernel.specs.declared.step.Step.TheVariants as steps
use Rattle.ba_general.specs.Layouts.{Layout, entry_adds, layout_after, tables_on}
use Rattle.ba_general.specs.Leaving.{AreKept, AreOfCases, AreOthers, Gaps, IsMoved, IsMovedBy, IsWithout, Leaves, gap_made, gap_on, gaps_after, gaps_with, if_cases, made, made_by, made_from, makes_cases, middle, named_of_cases}
use Rattle.ba_general.specs.Retold.{Names}
use Rattle.ba_general.specs.declared.gap.Gap.{Gap}
use Rattle.ba_general.specs.declared.making.Made.{Made}

-- ---- what makes no gap

untrue : (b : Bool) → not b ≡ true → b ≡ false
untrue true e = absurd (let no : ⊥ = cc in no)
untrue false e = refl

gapless : (s : Schema) (tables : List ℕ) (cases : Layout) → nat_eq (length cases) 1 ≡ false → gap_made s tables cases ≡ None
gapless s tables [] e = refl
gapless s tables (added ∷ []) e = absurd (let no : ⊥ = cc in no)
gapless s tables (added ∷ other ∷ others) e = refl

zip_drop : {X Y : Type 0} (R : X → Y → Type 0) (n : ℕ) (xs : List X) (ys : List Y) → AllZip R xs ys → AllZip R (drop n xs) (drop n ys)
zip_drop R zero xs ys h = h
zip_drop R (suc n) [] [] h = tt
zip_drop R (suc n) [] (y ∷ ys) h = absurd h
zip_drop R (suc n) (x ∷ xs) [] h = absurd h
zip_drop R (suc n) (x ∷ xs) (y ∷ ys) h = zip_drop R n xs ys h.1

-- ---- one step

module _ (p : Problem) (branch entry : ℕ) (several : makes_cases p entry ≡ true) where
  abbrev named : Step
  named = steps.Entry branch entry

  -- what it makes is no gap
  abbrev HasNoGap : Step → Made → Type 0
  HasNoGap step it = step ≡ named → it.gap ≡ None

  has_no_gap : (layout : Layout) (step : Step) → HasNoGap step (made_by p layout step)
  has_no_gap layout step e =
      subst (λ s. (made_by p layout s).gap ≡ None) (sym e)
      (gapless p.policy.schema (tables_on layout branch) (entry_adds p entry) (untrue (nat_eq (length (entry_adds p entry)) 1) several))

  none_has : (layout : Layout) (taken : List Step) → AllZip HasNoGap taken (made_from p layout taken)
  none_has layout [] = tt
  none_has layout (step ∷ later) = (has_no_gap layout step, none_has (layout_after p layout step) later)

  moved_same : (gap : Gap) (step moved : Step) → IsMoved gap step moved → step ≡ named → moved ≡ named
  moved_same gap step moved (IsMoved.entry) e = e
  moved_same gap step moved (IsMoved.key left right) e = absurd (let no : ⊥ = cc in no)
  moved_same gap step moved (IsMoved.link fact) e = absurd (let no : ⊥ = cc in no)
  moved_same gap step moved (IsMoved.rule facts) e = absurd (let no : ⊥ = cc in no)
  moved_same gap step moved (IsMoved.view facts) e = absurd (let no : ⊥ = cc in no)
  moved_same gap step moved (IsMoved.split atom) e = absurd (let no : ⊥ = cc in no)
  moved_same gap step moved (IsMoved.absurd) e = absurd (let no : ⊥ = cc in no)
  moved_same gap step moved (IsMoved.goal facts) e = absurd (let no : ⊥ = cc in no)

  moved_by : (gap : Option Gap) (step moved : Step) → IsMovedBy gap step moved → step ≡ named → moved ≡ named
  moved_by None step moved h e = h ∙ e
  moved_by (Some gap) step moved h e = moved_same gap step moved h e

  -- ---- among the others

  among_others : (gaps : Gaps) (left : ℕ) (later : List Step) (its : List Made) (rest : List Step) → AllZip HasNoGap later its → AreOthers gaps left later its rest →
      Contains later named → Contains rest named
  among_others gaps left [] its rest none (AreOthers.none) h = h
  among_others gaps zero (step ∷ later) [] rest none others h = absurd none
  among_others gaps (suc left) (step ∷ later) [] rest none others h = absurd none
  among_others gaps (suc left) (step ∷ later) (it ∷ its) rest none (AreOthers.gone {gap = gap} e others) h =
      elim (Contains-cases step later named h) [
        | inl same ↦ absurd (none-some gap (sym (none.0 same) ∙ e))
        | inr behind ↦ among_others (gaps_with gaps (branch_of step) gap) left later its rest none.1 others behind
      ]
  among_others gaps zero (step ∷ later) (it ∷ its) all none (AreOthers.stays {moved = moved} {rest = rest} is others) h =
      elim (Contains-cases step later named h) [
        | inl same ↦ subst (Contains (moved ∷ rest)) (moved_by (gap_on gaps (branch_of step)) step moved is same) (Contains-head moved rest)
        | inr behind ↦ Contains-later moved rest named (among_others (gaps_after gaps step it) zero later its rest none.1 others behind)
      ]

  among_rest : (taken : List Step) (first end : ℕ) (rest : List Step) → IsWithout taken (made p taken) first end rest → Contains taken named → Contains rest named
  among_rest taken first end rest h there =
      let none : AllZip HasNoGap (drop first taken) (drop first (made p taken)) = zip_drop HasNoGap first taken (made p taken) (none_has _ taken) in
      subst (λ xs. Contains xs named) (sym h.rest_is)
      (elim (Contains-append_cases (take first taken) (drop first taken) named (subst (λ xs. Contains xs named) (sym (take-append-drop first taken)) there)) [
        | inl before ↦ Contains-append_left (take first taken) h.moved named before
        | inr behind ↦
            Contains-append_right (take first taken) h.moved named
            (among_others _ _ (drop first taken) (drop first (made p taken)) h.moved none h.others behind)
      ])

  among_kept : (taken : List Step) (first end : ℕ) (kept : List Step) → Leaves p taken first end kept → Contains taken named → Contains kept named
  among_kept taken first end kept (Leaves.none e) h = h
  among_kept taken first end kept (Leaves.out less out) h = among_rest taken first end kept out.without h
  among_kept taken first end kept (Leaves.stays one none) h = h
  among_kept taken first end kept (Leaves.halves {half = half} more none back front) h =
      among_kept half first (middle first end) kept front (among_kept taken (middle first end) end half back h)

-- ---- entries

if_is : (b : Bool) (it entry : ℕ) → Contains (if_cases b it) entry → (b ≡ true) × (it ≡ entry)
if_is true it entry h = (refl, elim (Contains-cases it [] entry h) [ inl same ↦ same | inr later ↦ absurd (Contains-nil entry later) ])
if_is false it entry h = absurd (Contains-nil entry h)

of_cases : (p : Problem) (step : Step) (entry : ℕ) → Contains (named_of_cases p step) entry → (branch : ℕ) × (step ≡ steps.Entry branch entry) × (makes_cases p entry ≡ true)
of_cases p (steps.Entry branch it) entry h =
    let w = if_is (makes_cases p it) it entry h in
    (branch, ap (λ e. steps.Entry branch e) w.1, subst (λ e. makes_cases p e ≡ true) w.1 w.0)
of_cases p (steps.Key branch key left right) entry h = absurd (Contains-nil entry h)
of_cases p (steps.Link branch link fact) entry h = absurd (Contains-nil entry h)
of_cases p (steps.Rule branch rule part facts) entry h = absurd (Contains-nil entry h)
of_cases p (steps.View branch view part facts) entry h = absurd (Contains-nil entry h)
of_cases p (steps.Split branch atom) entry h = absurd (Contains-nil entry h)
of_cases p (steps.Absurd branch) entry h = absurd (Contains-nil entry h)
of_cases p (steps.Goal branch part facts) entry h = absurd (Contains-nil entry h)

pub own_names : (p : Problem) (taken : List Step) (entry : ℕ) → Contains (flat_map (named_of_cases p) taken) entry → Names taken entry
own_names p taken entry h =
    let w = Contains-flat_map (named_of_cases p) taken entry h in
    let is = of_cases p w.0 entry w.2 in
    (is.0, subst (λ step. Contains taken step) is.1 w.1)

pub kept_names : (p : Problem) (taken kept : List Step) (entry : ℕ) → AreKept p taken kept → Contains (flat_map (named_of_cases p) taken) entry → Names kept entry
kept_names p taken kept entry are h =
    let w = Contains-flat_map (named_of_cases p) taken entry h in
    let is = of_cases p w.0 entry w.2 in
    (is.0, among_kept p is.0 entry is.2 taken _ _ kept are (subst (λ step. Contains taken step) is.1 w.1))

-- sorted, each once
pub all_of_cases : (p : Problem) (taken : List Step) (found sorted new : List ℕ) → found ≡ flat_map (named_of_cases p) taken → IsPermutation found sorted →
    IsSorted nat_cmp sorted → new ≡ dedup eqb sorted → AreOfCases p taken new
all_of_cases p taken found sorted new found_is moved order e =
    record {
      rising = subst (IsStrictlySortedBy nat_cmp) (sym e) (sorted_from_strictly_increasing (dedup eqb sorted) (IsStrictlyIncreasing-dedup sorted order));
      exact = λ entry. (
        (λ h. subst (λ ns. Contains ns entry) found_is
            (Contains-permutation sorted found entry (IsPermutation-sym found sorted moved) (Contains-from_dedup eqb sorted entry (subst (λ ns. Contains ns entry) e h)))),
        (λ h. subst (λ ns. Contains ns entry) (sym e)
            (Contains-dedup_nat sorted entry (Contains-permutation found sorted entry moved (subst (λ ns. Contains ns entry) (sym found_is) h)))),
      );
    }

-- ---- lists that rise

later_more : (x : ℕ) (xs : List ℕ) (n : ℕ) → IsStrictlySortedBy nat_cmp (x ∷ xs) → Contains xs n → x < n
later_more x xs n s h = ranked x n Less (sym (All-contains (λ q. nat_cmp x q ≡ Less) xs n (All-after_first nat_cmp x xs s) h))

pub no_longer : (xs ys : List ℕ) → IsStrictlySortedBy nat_cmp xs → IsStrictlySortedBy nat_cmp ys → ((n : ℕ) → Contains xs n → Contains ys n) → length xs ≤ length ys
no_longer [] ys s t among = omega arith
no_longer (x ∷ xs) [] s t among = absurd (Contains-nil x (among x (Contains-head x xs)))
no_longer (x ∷ xs) (y ∷ ys) s t among =
    let not_first : (n : ℕ) → Contains xs n → y ≡ n → ⊥ = λ n h e.
    elim (Contains-cases y ys x (among x (Contains-head x xs))) [
      | inl same ↦ omega (arith, later_more x xs n s h, same, e)
      | inr later ↦ omega (arith, later_more x xs n s h, later_more y ys x t later, e)
    ] in
    let rest : length xs ≤ length ys =
    no_longer xs ys (sorted_tail nat_cmp x xs s) (sorted_tail nat_cmp y ys t) (λ n h. Contains-tail y ys n (not_first n h) (among n (Contains-later x xs n h))) in
    omega arith
