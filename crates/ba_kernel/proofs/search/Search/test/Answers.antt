use Rattle.ba_kernel.proofs.SearchLemmas.{tidy_open}
use Rattle.ba_kernel.proofs.search.Search.test.Goals as goal

pub tested-requires : goal.tested-requires
tested-requires c =
    tidy_open c.args.self.now c.self.inside.problem c.self.inside.steps c.self.inside.slots.items c.branch-step.result c.in_Some-branch.branch.now c.self.view_is c.runs_are_tidy.ensures
    c.self.invariant.0 c.in_Some-branch.ensures
