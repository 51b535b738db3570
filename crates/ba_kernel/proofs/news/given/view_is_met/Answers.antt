use Rattle.std.proofs.Common.{sym}
use Rattle.ba_kernel.proofs.NewLemmas.{view_met}
use Rattle.ba_kernel.proofs.news.given.view_is_met.Goals as goal

pub returns : goal.returns
returns c =
    view_met c.args.problem.now c.args.branch.now c.args.facts.now _ _ c.is_given.result c.args.view c.args.part c.in-Some.it.now c.in-Some-find.of.now
    (sym c.in-Some.ensures) (sym c.in-Some-find.ensures) c.as_slice.ensures c.as_slice-parts.ensures c.is_given.ensures
