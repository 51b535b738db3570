use Rattle.std.proofs.Common.{subst, sym}
use Rattle.ba_kernel.specs.Spares.{IsSpare}
use Rattle.ba_kernel.proofs.search.Search.spare.Goals as goal

pub invariant_of-self : goal.invariant_of-self
invariant_of-self c = (
  c.self.invariant.0,
  subst (IsSpare (record { problem = c.self.inside.problem; steps = c.self.inside.steps; slots = c.self.inside.slots.items })) (sym c.take-before.ensures.after) tt,
)

pub brought_up-requires : goal.brought_up-requires
brought_up-requires c =
    subst (IsSpare (record { problem = c.self.inside.problem; steps = c.self.inside.steps; slots = c.self.inside.slots.items })) (sym c.take-before.ensures.value)
    c.self.invariant.1
