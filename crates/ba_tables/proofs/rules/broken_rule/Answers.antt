use Rattle.std.proofs.Common.{◌∙◌, sym, arith}
use Rattle.ba_tables.proofs.RuleLemmas.{rule_here, rule_next, rules_end}
use Rattle.ba_tables.proofs.rules.broken_rule.Goals as goal

pub returns-in-Some : goal.returns-in-Some
returns-in-Some c =
    sym (rule_here c.loop-rule.rule c.args.rows.now c.in-Some.row c.args.rules.now c.get-it.result.now c.get-it.ensures (sym c.in-Some.is ∙ c.in_ok-row.ensures)) ∙ c.loop-rule.invariant

pub loop-rule-preserved : goal.loop-rule-preserved
loop-rule-preserved c =
    sym (rule_next c.loop-rule.rule c.args.rows.now c.args.rules.now c.get-it.result.now c.get-it.ensures (sym c.in_default-2.is ∙ c.in_ok-row.ensures)) ∙ c.loop-rule.invariant

pub returns : goal.returns
returns c =
    let h = c.in-Ok.ensures in
    sym (rules_end c.loop-rule.rule c.args.rows.now c.args.rules.now (omega (arith, h.1, c.len.ensures))) ∙ c.loop-rule.invariant
