use Rattle.std.proofs.Common.{Err, Ok, ap, refl}
use Rattle.std.proofs.lemmas.Result.{err_from_is_err_and}
use Rattle.ba_outside.specs.Seen.{FilesSeen}
use Rattle.ba_input.proofs.WorkloadLemmas.{no_memory_for, reads_workload}
use Rattle.ba_input.proofs.workload.workload_input.Goals as goal

pub returns-in_err-held-clause-follows : goal.returns-in_err-held-clause-follows
returns-in_err-held-clause-follows c = λ s.
    let p = err_from_is_err_and c.from_residual.result c.from_residual.ensures.1 in
    rw (p.1, p.2) (no_memory_for c.args.seed c.args.requests c.args.workers s)

pub returns-in-Ok-clause-follows : goal.returns-in-Ok-clause-follows
returns-in-Ok-clause-follows c =
    let files = c.new-files.ensures in
    reads_workload c.in_ok-held.held.items c.args.seed c.args.requests c.args.workers c.files_hold_their_bytes.ensures c.in_ok-held.ensures _ _ (Ok c.in-Ok.input) (ap (λ (z : FilesSeen). z.held) files)
    (ap (λ (z : FilesSeen). z.faults) files) refl c.in-Ok.ensures.follows

pub returns-clause-follows : goal.returns-clause-follows
returns-clause-follows c = λ s.
    let files = c.new-files.ensures in
    rw c.given_stop.ensures
    (reads_workload c.in_ok-held.held.items c.args.seed c.args.requests c.args.workers c.files_hold_their_bytes.ensures c.in_ok-held.ensures _ _ (Err c.in-Err.stop) (ap (λ (z : FilesSeen). z.held) files)
    (ap (λ (z : FilesSeen). z.faults) files) refl c.in-Err.ensures.follows s)
