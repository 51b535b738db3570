use Rattle.std.proofs.Common.{Some, subst}
use Rattle.ba_facts.specs.Matches.{LeastRound}
use Rattle.ba_facts.specs.declared.term.Side.TheVariants.{Two}
use Rattle.ba_kernel.proofs.LeastLemmas.{candidate_round}
use Rattle.ba_kernel.specs.NewParts.{IsAtomOfParts}
use Rattle.ba_kernel.proofs.news.split.split_round.Goals as goal

pub returns : goal.returns
returns c =
    let b = c.args.branch.now in
    let of_goal = subst (λ row. LeastRound b (IsAtomOfParts b Two c.goal_parts-parts.result.now (Some row) c.args.atom.now) c.parts_round-goal.result)
    c.deref.ensures c.parts_round-goal.ensures in
    candidate_round c.args.problem.now b c.args.atom.now c.views_round-views.result c.parts_round-goal.result c.lesser.result
    c.rules_round-rules.result c.lesser-2.result _ _ _ c.views.ensures c.goal_parts-parts.ensures c.rules.ensures c.views_round-views.ensures
    of_goal c.rules_round-rules.ensures c.lesser.ensures c.lesser-2.ensures
