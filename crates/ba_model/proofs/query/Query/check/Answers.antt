use Rattle.ba_model.proofs.QueryLemmas.{no_fault_from_query, query_from_no_fault}
use Rattle.ba_model.proofs.query.Query.check.Goals as goal
use Rattle.std.proofs.lemmas.Result.{err_from_is_err_and}

pub returns-clause-ok : goal.returns-clause-ok
returns-clause-ok c = query_from_no_fault _ _ _ _ c.in_ok-fault_of_lists.ensures.ok

pub returns-in_err-fault_of_lists-clause-exact : goal.returns-in_err-fault_of_lists-clause-exact
returns-in_err-fault_of_lists-clause-exact c =
    let p = err_from_is_err_and c.from_residual.result c.from_residual.ensures.1 in
    rw p.1 (λ h. c.in_err-fault_of_lists.ensures.first.has (no_fault_from_query _ _ _ _ h c.in_err-fault_of_lists.field-0.0))
