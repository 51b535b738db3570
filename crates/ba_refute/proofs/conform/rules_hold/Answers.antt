use Rattle.ba_model.specs.Conform.{RuleHolds}
use Rattle.ba_refute.proofs.LoopLemmas.{ended, passed, refused}
use Rattle.ba_refute.proofs.WithinLemmas.{as_rule}
use Rattle.ba_refute.proofs.conform.rules_hold.Goals as goal

pub returns-then-not-holds : goal.returns-then-not-holds
returns-then-not-holds c =
    refused (RuleHolds c.args.rows.now) c.args.rules.now c.loop-rule.rule-index c.rule-item.result c.in_ok-holds.holds c.loop-rule-test.true c.rule-item.is (as_rule c.rule-item.result c.args.rows.now c.in_ok-holds.holds c.no_context-no_context.ensures c.in_ok-holds.ensures) c.if-not-holds.true

pub loop-rule-preserved : goal.loop-rule-preserved
loop-rule-preserved c =
    passed (RuleHolds c.args.rows.now) c.args.rules.now c.loop-rule.rule-index c.rule-item.result c.in_ok-holds.holds c.loop-rule-test.true c.rule-item.is (as_rule c.rule-item.result c.args.rows.now c.in_ok-holds.holds c.no_context-no_context.ensures c.in_ok-holds.ensures) c.if-not-holds.false c.loop-rule.invariant

pub returns : goal.returns
returns c = ended (RuleHolds c.args.rows.now) c.args.rules.now c.loop-rule.rule-index c.loop-rule-test.false c.loop-rule.invariant
