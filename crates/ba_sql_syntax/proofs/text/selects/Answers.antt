use Rattle.std.proofs.Common.{sym}
use Rattle.std.proofs.lemmas.Result.{err_from_is_err_and}
use Rattle.ba_sql_syntax.specs.Reader.{union_goes, union_step}
use Rattle.ba_sql_syntax.proofs.RunLemmas.{fails, goes_on, over, stops}
use Rattle.ba_sql_syntax.proofs.text.selects.Goals as goal

pub returns-then-not-begins_with : goal.returns-then-not-begins_with
returns-then-not-begins_with c =
    stops union_goes union_step c.args.words.now c.loop.counter (c.loop.found, c.loop.rest.now) _ c.loop.invariant c.loop-test.true (sym c.if-not-begins_with.ensures)

pub returns-in_err-more : goal.returns-in_err-more
returns-in_err-more c =
    let p = err_from_is_err_and c.from_residual-in_err-more.result c.from_residual-in_err-more.ensures.1 in
    rw (p.1, p.2) (fails union_goes union_step c.args.words.now c.loop.counter (c.loop.found, c.loop.rest.now) _ c.in_err-more.field-0.0 c.loop.invariant c.loop-test.true (sym c.if-not-begins_with.ensures) c.in_err-more.ensures)

pub loop-preserved : goal.loop-preserved
loop-preserved c =
    goes_on union_goes union_step c.args.words.now c.loop.counter (c.loop.found, c.loop.rest.now) (c.in_ok-more.more, c.in_ok-more.behind.now) _ c.loop.invariant c.loop-test.true (sym c.if-not-begins_with.ensures) c.in_ok-more.ensures

pub returns : goal.returns
returns c = over union_goes union_step c.args.words.now c.loop.counter (c.loop.found, c.loop.rest.now) _ c.loop.invariant c.loop-test.false
