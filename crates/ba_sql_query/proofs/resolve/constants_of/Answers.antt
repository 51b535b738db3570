use Rattle.std.proofs.lemmas.Result.{err_from_is_err_and}
use Rattle.ba_sql_query.specs.Names.{constant_of}
use Rattle.ba_sql_query.proofs.EachLemmas.{each_fails, each_goes_on}
use Rattle.ba_sql_query.proofs.resolve.constants_of.Goals as goal

pub returns-in_err-operand : goal.returns-in_err-operand
returns-in_err-operand c =
    let p = err_from_is_err_and c.from_residual.result c.from_residual.ensures.1 in
    rw (p.1, p.2) (each_fails (constant_of c.args.params.now) c.args.constants.now c.loop-constant.constant-index c.loop-constant.found c.constant-item.result c.in_err-operand.field-0.0 c.loop-constant.invariant c.loop-constant-test.true c.constant-item.is c.in_err-operand.ensures)

pub loop-constant-preserved : goal.loop-constant-preserved
loop-constant-preserved c =
    each_goes_on (constant_of c.args.params.now) c.args.constants.now c.loop-constant.constant-index c.loop-constant.found _ c.constant-item.result c.in_ok-operand.operand c.loop-constant.invariant c.loop-constant-test.true c.constant-item.is c.in_ok-operand.ensures c.in_ok-push.ensures.ok
