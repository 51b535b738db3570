-- What is remembered of the steps that tell a branch nothing any more.
use Rattle.std.specs.Prelude.{◌≡◌, ◌≢◌, ◌⊎◌, ℕ, ◌<◌, ◌≤◌, Contains, length, Option, Some, None, slice_get}
use Rattle.ba_facts.specs.declared.branch.Branch.{Branch}
use Rattle.ba_kernel.specs.Courses.{IsOpen, branch_of}
use Rattle.ba_kernel.specs.Steps.{Passes, Tells}
use Rattle.ba_kernel.specs.SearchStates.{Course}
use Rattle.ba_kernel.specs.declared.problem.Problem.{Problem}
use Rattle.ba_kernel.specs.declared.step.Step.{Step}
use Rattle.ba_kernel.specs.declared.step.Step.TheVariants as steps
use Rattle.ba_instant.specs.declared.mapped.Form.TheVariants.{OfRule, OfView}
use Rattle.ba_instant.specs.declared.memory.Memory.{Memory}
use Rattle.ba_instant.specs.declared.told.Told.{Told}

-- ---- the steps that are remembered

-- the step is by an entry, a link, a rule or a view: what it tells stays told
abbrev pub Lasts : Step → Type 0
Lasts (steps.Entry branch entry) = Unit {0}
Lasts (steps.Key branch key left right) = ⊥
Lasts (steps.Link branch link fact) = Unit {0}
Lasts (steps.Rule branch rule part facts) = Unit {0}
Lasts (steps.View branch view part facts) = Unit {0}
Lasts (steps.Split branch atom) = ⊥
Lasts (steps.Absurd branch) = ⊥
Lasts (steps.Goal branch part facts) = ⊥

-- such a step on the branch of the number
abbrev pub on_branch : ℕ → Step → Option Step
on_branch number (steps.Entry branch entry) = Some (steps.Entry number entry)
on_branch number (steps.Key branch key left right) = None
on_branch number (steps.Link branch link fact) = Some (steps.Link number link fact)
on_branch number (steps.Rule branch rule part facts) = Some (steps.Rule number rule part facts)
on_branch number (steps.View branch view part facts) = Some (steps.View number view part facts)
on_branch number (steps.Split branch atom) = None
on_branch number (steps.Absurd branch) = None
on_branch number (steps.Goal branch part facts) = None

-- the step is one of these, on whatever branch
abbrev pub Remembers : Told → Step → Type 0
Remembers told (steps.Entry branch entry) = Contains told.entries (record { entry = entry })
Remembers told (steps.Key branch key left right) = ⊥
Remembers told (steps.Link branch link fact) =
    Contains told.links (record { fact = fact; link = link })
Remembers told (steps.Rule branch rule part facts) =
    Contains told.mappings (record { form = OfRule rule part; facts = facts })
Remembers told (steps.View branch view part facts) =
    Contains told.mappings (record { form = OfView view part; facts = facts })
Remembers told (steps.Split branch atom) = ⊥
Remembers told (steps.Absurd branch) = ⊥
Remembers told (steps.Goal branch part facts) = ⊥

-- each that is remembered now was before, or is the step, on whatever branch
pub record AddsStep (step : Step) (old new : Told) : Type 0 where
  pub from : (other : Step) → Remembers new other →
      Remembers old other ⊎ (on_branch (branch_of step) other ≡ Some step)

-- ---- what is told

-- the step passes its tests on the branch, and tells it nothing
pub record IsTold (p : Problem) (b : Branch) (step : Step) : Type 0 where
  pub passes : Passes p b step
  pub none : ¬ (Tells p b step)

-- each that is remembered is so
pub record AreTold (p : Problem) (b : Branch) (told : Told) : Type 0 where
  pub each : (step : Step) → Remembers told step → IsTold p b step

-- so they are, and the step still passes, if it is by an entry, a link, a rule or a view
pub record StaysTold (p : Problem) (b : Branch) (step : Step) (those : Told) : Type 0 where
  pub told : AreTold p b those
  pub passes : Lasts step → Passes p b step

-- ---- the branches of a search

-- for each number there is what is told on its branch, if that is open
pub record AreRemembered (c : Course) (memory : Memory) : Type 0 where
  pub count : length memory.each.items ≡ length c.slots
  pub told : (number : ℕ) (b : Branch) (told : Told) → IsOpen c.slots number b →
      slice_get memory.each.items number ≡ Some told → AreTold c.problem b told

-- The branches come of the step, which was taken: what is remembered of its own is told on those
-- that come of it, and of the others their own.
pub record IsMoved (c : Course) (step : Step) (memory : Memory) : Type 0 where
  pub there : branch_of step < length memory.each.items
  pub within : length memory.each.items ≤ length c.slots
  pub others : (number : ℕ) (b : Branch) (told : Told) → number ≢ branch_of step →
      IsOpen c.slots number b → slice_get memory.each.items number ≡ Some told →
      AreTold c.problem b told
  pub cases : (number : ℕ) (b : Branch) (told : Told) →
      (number ≡ branch_of step) ⊎ (length memory.each.items ≤ number) →
      IsOpen c.slots number b → slice_get memory.each.items (branch_of step) ≡ Some told →
      StaysTold c.problem b step told
