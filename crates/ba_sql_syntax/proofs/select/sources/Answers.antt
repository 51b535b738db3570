use Rattle.std.proofs.Common.{sym}
use Rattle.std.proofs.lemmas.Result.{err_from_is_err_and}
use Rattle.ba_sql_syntax.specs.Reader.{join_goes, join_step, joined}
use Rattle.ba_sql_syntax.proofs.RunLemmas.{fails, goes_on, over, stops}
use Rattle.ba_sql_syntax.proofs.select.sources.Goals as goal

pub returns-then-not-has_source : goal.returns-then-not-has_source
returns-then-not-has_source c =
    stops join_goes join_step c.args.words.now c.loop.counter (joined c.loop.so_far.sources c.loop.so_far.condition c.loop.rest.now) _ c.loop.invariant c.loop-test.true (sym c.if-not-has_source.ensures)

pub returns-in_err-next : goal.returns-in_err-next
returns-in_err-next c =
    let p = err_from_is_err_and c.from_residual-in_err-next.result c.from_residual-in_err-next.ensures.1 in
    rw (p.1, p.2) (fails join_goes join_step c.args.words.now c.loop.counter (joined c.loop.so_far.sources c.loop.so_far.condition c.loop.rest.now) _ c.in_err-next.field-0.0 c.loop.invariant c.loop-test.true (sym c.if-not-has_source.ensures) c.in_err-next.ensures)

pub loop-preserved : goal.loop-preserved
loop-preserved c =
    goes_on join_goes join_step c.args.words.now c.loop.counter (joined c.loop.so_far.sources c.loop.so_far.condition c.loop.rest.now) (joined c.in_ok-next.next.sources c.in_ok-next.next.condition c.in_ok-next.behind.now) _ c.loop.invariant c.loop-test.true (sym c.if-not-has_source.ensures) c.in_ok-next.ensures

pub returns : goal.returns
returns c =
    over join_goes join_step c.args.words.now c.loop.counter (joined c.loop.so_far.sources c.loop.so_far.condition c.loop.rest.now) _ c.loop.invariant c.loop-test.false
