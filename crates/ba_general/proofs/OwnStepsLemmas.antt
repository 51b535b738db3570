-- The entries that kept steps name are named by the proof's own.
use Rattle.std.proofs.Common.{◌≡◌, ℕ, zero, suc, inl, inr, ◌∙◌, List, [], ◌∷◌, take, drop, get_or, subst, sym}
use Rattle.std.proofs.lemmas.List.{take-append-drop}
use Rattle.std.proofs.lemmas.List.Elements.{Contains-append_cases, Contains-append_left, Contains-append_right, Contains-get_or}
use Rattle.std.specs.Prelude.{All, Contains, Option, Some, None}
use Rattle.ba_kernel.specs.Courses.{branch_of}
use Rattle.ba_kernel.specs.declared.problem.Problem.{Problem}
use Rattle.ba_kernel.specs.declared.step.Step.{Step}
use Rattle.ba_kernel.specs.declared.step.Step.TheVariants as steps
use Rattle.ba_model.proofs.ElementLemmas.{Contains-cases, Contains-head, Contains-later}
use Rattle.ba_general.proofs.StayingLemmas.{own_names}
use Rattle.ba_general.specs.Generals.{IsTooWide, NamesTooMuch, WideByOwnSteps}
use Rattle.ba_general.specs.Leaving.{AreKept, AreOthers, Gaps, IsMoved, IsMovedBy, IsWithout, Leaves, gap_on, gaps_after, gaps_with, made, middle}
use Rattle.ba_general.specs.Retold.{AreNamed, Names}
use Rattle.ba_general.specs.declared.gap.Gap.{Gap}
use Rattle.ba_general.specs.declared.making.Made.{Made}

module _ (branch entry : ℕ) where
  abbrev named : Step
  named = steps.Entry branch entry

  -- a step by an entry stays as it is
  same_entry : (gap : Gap) (step moved : Step) → IsMoved gap step moved → moved ≡ named → step ≡ named
  same_entry gap step moved (IsMoved.entry) e = e
  same_entry gap step moved (IsMoved.key left right) e = absurd (let no : ⊥ = cc in no)
  same_entry gap step moved (IsMoved.link fact) e = absurd (let no : ⊥ = cc in no)
  same_entry gap step moved (IsMoved.rule facts) e = absurd (let no : ⊥ = cc in no)
  same_entry gap step moved (IsMoved.view facts) e = absurd (let no : ⊥ = cc in no)
  same_entry gap step moved (IsMoved.split atom) e = absurd (let no : ⊥ = cc in no)
  same_entry gap step moved (IsMoved.absurd) e = absurd (let no : ⊥ = cc in no)
  same_entry gap step moved (IsMoved.goal facts) e = absurd (let no : ⊥ = cc in no)

  same_by : (gap : Option Gap) (step moved : Step) → IsMovedBy gap step moved → moved ≡ named → step ≡ named
  same_by None step moved h e = sym h ∙ e
  same_by (Some gap) step moved h e = same_entry gap step moved h e

  among_others : (gaps : Gaps) (left : ℕ) (later : List Step) (its : List Made) (rest : List Step) → AreOthers gaps left later its rest → Contains rest named → Contains later named
  among_others gaps left [] its rest (AreOthers.none) h = h
  among_others gaps zero (step ∷ later) [] rest others h = elim others [ ]
  among_others gaps (suc left) (step ∷ later) [] rest others h = elim others [ ]
  among_others gaps (suc left) (step ∷ later) (it ∷ its) rest (AreOthers.gone {gap = gap} e others) h =
      Contains-later step later named (among_others (gaps_with gaps (branch_of step) gap) left later its rest others h)
  among_others gaps zero (step ∷ later) (it ∷ its) all (AreOthers.stays {moved = moved} {rest = rest} is others) h =
      elim (Contains-cases moved rest named h) [
        | inl same ↦ subst (Contains (step ∷ later)) (same_by (gap_on gaps (branch_of step)) step moved is same) (Contains-head step later)
        | inr behind ↦ Contains-later step later named (among_others (gaps_after gaps step it) zero later its rest others behind)
      ]

  among_taken : (taken : List Step) (its : List Made) (first end : ℕ) (rest : List Step) → IsWithout taken its first end rest → Contains rest named → Contains taken named
  among_taken taken its first end rest h there =
      elim (Contains-append_cases (take first taken) h.moved named (subst (λ xs. Contains xs named) h.rest_is there)) [
        | inl before ↦
            subst (λ xs. Contains xs named) (take-append-drop first taken) (Contains-append_left (take first taken) (drop first taken) named before)
        | inr behind ↦
            subst (λ xs. Contains xs named) (take-append-drop first taken)
            (Contains-append_right (take first taken) (drop first taken) named (among_others _ _ (drop first taken) (drop first its) h.moved h.others behind))
      ]

  among_own : (p : Problem) (taken : List Step) (first end : ℕ) (kept : List Step) → Leaves p taken first end kept → Contains kept named → Contains taken named
  among_own p taken first end kept (Leaves.none e) h = h
  among_own p taken first end kept (Leaves.out less out) h = among_taken taken (made p taken) first end kept out.without h
  among_own p taken first end kept (Leaves.stays one none) h = h
  among_own p taken first end kept (Leaves.halves {half = half} more none back front) h =
      among_own p taken (middle first end) end half back (among_own p half first (middle first end) kept front h)

own_named : (p : Problem) (taken kept : List Step) (numbers : List ℕ) → AreKept p taken kept → AreNamed kept numbers → All (Names taken) numbers
own_named p taken kept numbers steps h k d below =
    let named : Names kept (get_or numbers k d) = (h.exact (get_or numbers k d)).0 (Contains-get_or numbers k d below) in
    (named.0, among_own named.0 (get_or numbers k d) p taken _ _ kept steps named.1)

pub by_own_steps : WideByOwnSteps
by_own_steps proof (IsTooWide.by_cases (numbers, of, many)) =
    NamesTooMuch.by_entries numbers of.rising
    (λ k d below. own_names proof.problem proof.steps (get_or numbers k d) ((of.exact (get_or numbers k d)).0 (Contains-get_or numbers k d below))) many
by_own_steps proof (IsTooWide.by_entries {kept = kept} {numbers = numbers} steps named many) =
    NamesTooMuch.by_entries numbers named.rising (own_named proof.problem proof.steps kept numbers steps named) many
by_own_steps proof (IsTooWide.by_operands {kept = kept} {numbers = numbers} {g = g} {values = values} keeps many) =
    NamesTooMuch.by_operands numbers g values keeps.named.rising (own_named proof.problem proof.steps kept numbers keeps.steps keeps.named) keeps.pattern many
