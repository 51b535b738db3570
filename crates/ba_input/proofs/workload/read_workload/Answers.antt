use Rattle.std.proofs.Common.{Err, Ok, subst, sym}
use Rattle.std.proofs.lemmas.Result.{err_from_is_err_and}
use Rattle.ba_plan.specs.Follows.{Follows}
use Rattle.ba_input.proofs.InputLemmas.{workload_err, workload_ok}
use Rattle.ba_input.specs.Reading.{workload_plan}
use Rattle.ba_input.specs.declared.task.Task.TheVariants as task
use Rattle.ba_input.specs.declared.task.Told.TheVariants.{Summary}
use Rattle.ba_input.proofs.workload.read_workload.Goals as goal

pub returns-in_err-input-clause-follows : goal.returns-in_err-input-clause-follows
returns-in_err-input-clause-follows c = λ s.
    let p = err_from_is_err_and c.from_residual-in_err-input.result c.from_residual-in_err-input.ensures.1 in
    let e = c.in_err-input.field-0.0 in
    rw (p.1, p.2) (subst (λ b. Follows (workload_plan c.args.seed c.args.requests c.args.workers b) s s (Err e)) (sym c.if-print.false)
    (workload_err c.args.seed c.args.requests c.args.workers s e (c.in_err-input.ensures.follows s)))

pub returns-in_ok-input-clause-follows : goal.returns-in_ok-input-clause-follows
returns-in_ok-input-clause-follows c = λ s.
    subst (λ b. Follows (workload_plan c.args.seed c.args.requests c.args.workers b) s s (Ok (task.Run c.in_ok-input.input Summary))) (sym c.if-print.false)
    (workload_ok c.args.seed c.args.requests c.args.workers c.in_ok-input.input s (c.in_ok-input.ensures.follows s))
