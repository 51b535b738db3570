use Rattle.std.proofs.lemmas.Result.{err_from_is_err_and}
use Rattle.ba_input.specs.Reading.{names_of}
use Rattle.ba_input.proofs.InputLemmas.{audit_err, audit_ok}
use Rattle.ba_input.proofs.audit_input.read_audit.Goals as goal

pub returns-in_err-input-clause-follows : goal.returns-in_err-input-clause-follows
returns-in_err-input-clause-follows g c =
    let seen = g.F.Files.seen in
    let p = err_from_is_err_and c.from_residual.result c.from_residual.ensures.1 in
    let e = c.in_err-input.field-0.0 in
    rw (p.1, p.2) (audit_err (names_of c.args.given.now) c.args.output.now (seen c.args.files.now) (seen c.read_named.new.files) e c.in_err-input.ensures.follows)

pub returns-clause-follows : goal.returns-clause-follows
returns-clause-follows g c =
    let seen = g.F.Files.seen in
    audit_ok (names_of c.args.given.now) c.args.output.now c.in_ok-input.input (seen c.args.files.now) (seen c.read_named.new.files) (seen c.read_output.new.files) c.read_output.result c.in_ok-input.ensures.follows c.read_output.ensures.follows
