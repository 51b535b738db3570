use Rattle.std.proofs.lemmas.Result.{err_from_is_err_and}
use Rattle.ba_policy.proofs.LoopLemmas.{adding_fails}
use Rattle.ba_policy.proofs.draft.add_all.Goals as goal

pub returns-in_err-add-clause-exact : goal.returns-in_err-add-clause-exact
returns-in_err-add-clause-exact c =
    let p = err_from_is_err_and c.from_residual.result c.from_residual.ensures.1 in
    rw (p.1, p.2) (adding_fails c.args.schema.now c.args.all.now c.loop-statement.draft c.args.statements.now c.loop-statement.statement-index c.statement-item.result
    c.in_err-add.field-0.0 c.loop-statement.invariant c.loop-statement-test.true c.statement-item.is c.in_err-add.ensures.exact)
