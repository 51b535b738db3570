use Rattle.std.proofs.Common.{ℕ, List, subst}
use Rattle.ba_model.specs.declared.schema.Rule.{Rule}
use Rattle.ba_facts.specs.Matches.{LeastRound}
use Rattle.ba_kernel.proofs.LeastLemmas.{least_end, least_more}
use Rattle.ba_kernel.specs.NewParts.{IsAtomOfSides}
use Rattle.ba_kernel.proofs.news.split.rules_round.Goals as goal

pub loop-rule-preserved : goal.loop-rule-preserved
loop-rule-preserved c =
    least_more c.args.branch.now (λ (rule : Rule) (facts : List ℕ). IsAtomOfSides c.args.branch.now rule.left.parts c.args.atom.now facts)
    c.args.rules.now c.loop-rule.rule-index c.rule-item.result c.loop-rule.least c.rule_round.result c.lesser-least.result c.loop-rule-test.true
    c.rule-item.is c.loop-rule.invariant
    (subst (λ parts. LeastRound c.args.branch.now (IsAtomOfSides c.args.branch.now parts c.args.atom.now) c.rule_round.result) c.as_slice.ensures
    c.rule_round.ensures)
    c.lesser-least.ensures

pub returns : goal.returns
returns c =
    least_end c.args.branch.now (λ (rule : Rule) (facts : List ℕ). IsAtomOfSides c.args.branch.now rule.left.parts c.args.atom.now facts)
    c.args.rules.now c.loop-rule.rule-index c.loop-rule.least c.loop-rule-test.false c.loop-rule.invariant
