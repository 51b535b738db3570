use Rattle.ba_kernel.proofs.SearchLemmas.{tidy_open}
use Rattle.ba_kernel.proofs.search.Search.new_round.Goals as goal

pub new_round-requires-clause-tidy : goal.new_round-requires-clause-tidy
new_round-requires-clause-tidy c =
    tidy_open c.args.self.now c.self.inside.problem c.self.inside.steps c.self.inside.slots.items c.branch-step.result
    c.in_Some-branch.branch.now c.self.view_is c.runs_are_tidy.ensures c.self.invariant.0 c.in_Some-branch.ensures
