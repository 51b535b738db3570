use Rattle.std.proofs.lemmas.Result.{err_from_is_err_and}
use Rattle.ba_input.proofs.InputLemmas.{check_err, check_ok}
use Rattle.ba_input.proofs.proof_input.read_check.Goals as goal

pub returns-in_err-proof-clause-follows : goal.returns-in_err-proof-clause-follows
returns-in_err-proof-clause-follows g c =
    let seen = g.F.Files.seen in
    let p = err_from_is_err_and c.from_residual.result c.from_residual.ensures.1 in
    let e = c.in_err-proof.field-0.0 in
    rw (p.1, p.2) (check_err _ (seen c.args.files.now) (seen c.read_files.new.files) e c.in_err-proof.ensures.follows)

pub returns-clause-follows : goal.returns-clause-follows
returns-clause-follows g c =
    let seen = g.F.Files.seen in
    check_ok _ c.in_ok-proof.proof (seen c.args.files.now) (seen c.read_files.new.files) c.in_ok-proof.ensures.follows
