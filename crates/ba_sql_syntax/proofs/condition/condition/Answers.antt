use Rattle.std.proofs.Common.{sym, ap, length}
use Rattle.std.proofs.lemmas.Result.{err_from_is_err_and}
use Rattle.ba_sql_syntax.specs.Progress.{progress}
use Rattle.ba_sql_syntax.specs.Reader.{condition_at, condition_goes, condition_step, finish, run, start}
use Rattle.ba_sql_syntax.proofs.RunLemmas.{begun, fails, fails_first, goes_on, over, stops}
use Rattle.ba_sql_syntax.proofs.condition.condition.Goals as goal

pub loop-init : goal.loop-init
loop-init c =
    let words = c.args.words.now in
    begun condition_goes condition_step c.args.words.now (progress c.new-progress.result words) (run condition_goes condition_step (length words) (start words)) (ap (run condition_goes condition_step (length words)) (c.new-progress.ensures words))

pub returns-then-not-goes_on : goal.returns-then-not-goes_on
unfolding condition_at
returns-then-not-goes_on c =
    rw (stops condition_goes condition_step c.args.words.now c.loop.counter (progress c.loop.progress c.loop.rest.now) _ c.loop.invariant c.loop-test.true (sym c.if-not-goes_on.ensures)) c.finish.ensures

pub returns-in_err-rest : goal.returns-in_err-rest
unfolding condition_at
returns-in_err-rest c =
    let p = err_from_is_err_and c.from_residual.result c.from_residual.ensures.1 in
    rw (p.1, p.2) (fails_first c.in_err-rest.field-0.0 (run condition_goes condition_step (length c.args.words.now) (start c.args.words.now)) finish
    (fails condition_goes condition_step c.args.words.now c.loop.counter (progress c.loop.progress c.loop.rest.now) _ c.in_err-rest.field-0.0 c.loop.invariant c.loop-test.true (sym c.if-not-goes_on.ensures) c.in_err-rest.ensures))

pub loop-preserved : goal.loop-preserved
loop-preserved c =
    goes_on condition_goes condition_step c.args.words.now c.loop.counter (progress c.loop.progress c.loop.rest.now) (progress c.step.new.self c.in_ok-rest.rest.now) _ c.loop.invariant c.loop-test.true (sym c.if-not-goes_on.ensures) c.in_ok-rest.ensures

pub returns : goal.returns
unfolding condition_at
returns c =
    rw (over condition_goes condition_step c.args.words.now c.loop.counter (progress c.loop.progress c.loop.rest.now) _ c.loop.invariant c.loop-test.false) c.finish-2.ensures
