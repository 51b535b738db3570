use Rattle.std.proofs.Common.{◌∙◌, subst, sym}
use Rattle.ba_kernel.proofs.SearchLemmas.{tidy_open}
use Rattle.ba_kernel.proofs.SpareLemmas.{passed_open}
use Rattle.ba_kernel.specs.SearchStates.{PassesAt, open_at}
use Rattle.ba_kernel.proofs.search.Search.cases.Goals as goal

pub base-requires : goal.base-requires
base-requires c =
    let k = c.args.self.now in
    passed_open k.problem (open_at k.slots c.branch-step.result) c.args.step.now
    (subst (λ n. PassesAt k.problem (open_at k.slots n) c.args.step.now) (sym c.branch-step.ensures) c.requires)

pub cases_of-requires-clause-tidy : goal.cases_of-requires-clause-tidy
cases_of-requires-clause-tidy c =
    tidy_open c.args.self.now c.self.inside.problem c.self.inside.steps c.self.inside.slots.items c.branch-step.result c.in_ok-branch.branch
    (c.self.view_is ∙ c.base.ensures.same) c.runs_are_tidy.ensures c.self.invariant.0 (sym c.in_ok-branch.ensures.branch)
