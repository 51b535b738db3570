use Rattle.std.proofs.Common.{sym}
use Rattle.ba_kernel.proofs.NewLemmas.{rule_met, rule_some}
use Rattle.ba_kernel.proofs.news.given.rule_is_met.Goals as goal

pub returns : goal.returns
returns c =
    rule_met c.args.problem.now c.args.branch.now c.args.facts.now _ _ c.is_given.result c.args.rule c.args.part c.in-Some.it.now c.in-Some-find.left.now
    c.in-Some-side_of.side (sym c.in-Some.ensures) (sym c.in-Some-find.ensures)
    (rule_some c.args.problem.now c.requires c.args.rule c.args.part c.in-Some.it.now c.in-Some-find.left.now (sym c.in-Some.ensures)
    (sym c.in-Some-find.ensures))
    c.in-Some-side_of.ensures c.as_slice.ensures c.as_slice-parts.ensures c.is_given.ensures
