use Rattle.std.proofs.Common.{sym}
use Rattle.std.proofs.lemmas.Result.{err_from_is_err_and}
use Rattle.ba_sql_ddl.proofs.RuleLemmas.{rules_fail, rules_go_on, rules_over, rules_stop}
use Rattle.ba_sql_ddl.proofs.read.rules.Goals as goal

pub returns-then-not-begins_rule : goal.returns-then-not-begins_rule
returns-then-not-begins_rule c =
    rules_stop c.args.most c.loop.counter c.loop.found c.loop.rest.now c.args.words.now c.loop.invariant c.loop-test.true (sym c.if-not-begins_rule.ensures)

pub returns-in_err-next : goal.returns-in_err-next
returns-in_err-next c =
    let p = err_from_is_err_and c.from_residual.result c.from_residual.ensures.1 in
    rw (p.1, p.2) (rules_fail c.args.most c.loop.counter c.loop.found c.loop.rest.now c.args.words.now c.in_err-next.field-0.0 c.loop.invariant c.loop-test.true (sym c.if-not-begins_rule.ensures) c.in_err-next.ensures)

pub loop-preserved : goal.loop-preserved
loop-preserved c =
    rules_go_on c.args.most c.loop.counter c.loop.found _ c.loop.rest.now c.in_ok-next.behind.now c.args.words.now c.in_ok-next.next c.loop.invariant c.loop-test.true (sym c.if-not-begins_rule.ensures) c.in_ok-next.ensures c.in_ok-push.ensures.ok

pub returns : goal.returns
returns c = rules_over c.args.most c.loop.counter c.loop.found c.loop.rest.now c.args.words.now c.loop.invariant c.loop-test.false
