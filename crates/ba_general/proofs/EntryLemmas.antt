-- The entries that accepted steps name are there.
use Rattle.std.proofs.Common.{◌≡◌, ℕ, ◌<◌, inl, inr, List, [], ◌∷◌, All, Contains, get_or, length, subst}
use Rattle.std.proofs.lemmas.List.Elements.{Contains-append_cases, Contains-get_or}
use Rattle.std.proofs.lemmas.Option.{slice_get_within}
use Rattle.ba_model.proofs.ElementLemmas.{Contains-cases, Contains-nil}
use Rattle.ba_kernel.specs.Courses.{Runs, Slots, Takes}
use Rattle.ba_kernel.specs.Steps.{EntryLeads, Leads}
use Rattle.ba_kernel.specs.Replays.{Closes}
use Rattle.ba_kernel.specs.declared.problem.Problem.{Problem}
use Rattle.ba_kernel.specs.declared.step.Step.{Step}
use Rattle.ba_kernel.specs.declared.step.Step.TheVariants as steps
use Rattle.ba_general.specs.Retold.{AreNamed}

taken_there : (p : Problem) (old new : Slots) (step : Step) (branch entry : ℕ) → Takes p old step new → step ≡ steps.Entry branch entry → entry < length p.entries
taken_there p old new step branch entry takes same =
    let leads : EntryLeads p takes.branch entry takes.cases = subst (λ (s : Step). Leads p takes.branch s takes.cases) same takes.leads in
    slice_get_within p.entries entry leads.passes.it leads.passes.there

entry_there : (p : Problem) (taken : List Step) (slots : Slots) (branch entry : ℕ) → Runs p taken slots → Contains taken (steps.Entry branch entry) →
    entry < length p.entries
entry_there p taken slots branch entry (Runs.start h) there = absurd (Contains-nil (steps.Entry branch entry) there)
entry_there p taken slots branch entry (Runs.next {taken = before} {step = step} {old = old} runs takes) there =
    elim (Contains-append_cases before (step ∷ []) (steps.Entry branch entry) there) as (λ _. entry < length p.entries) [
      | inl earlier ↦ entry_there p before old branch entry runs earlier
      | inr here ↦ elim (Contains-cases step [] (steps.Entry branch entry) here) as (λ _. entry < length p.entries) [
        | inl same ↦ taken_there p old slots step branch entry takes same
        | inr later ↦ absurd (Contains-nil (steps.Entry branch entry) later)
      ]
    ]

pub numbers_there : (p : Problem) (taken : List Step) (numbers : List ℕ) → Closes p taken → AreNamed taken numbers → All (λ n. n < length p.entries) numbers
numbers_there p taken numbers closes named i d below =
    let w = (named.exact (get_or numbers i d)).0 (Contains-get_or numbers i d below) in
    entry_there p taken closes.slots w.0 (get_or numbers i d) closes.runs w.1
