use Rattle.std.proofs.lemmas.Result.{err_from_is_err_and}
use Rattle.ba_input.proofs.InputLemmas.{named_err, named_ok}
use Rattle.ba_input.proofs.run_input.read_named.Goals as goal

pub returns-in_err-tables-clause-follows : goal.returns-in_err-tables-clause-follows
returns-in_err-tables-clause-follows g c =
    let seen = g.F.Files.seen in
    let p = err_from_is_err_and c.from_residual-in_err-tables.result c.from_residual-in_err-tables.ensures.1 in
    let e = c.in_err-tables.field-0.0 in
    rw (p.1, p.2) (named_err _ c.in_ok-bytes.bytes c.in_ok-text.text c.in_ok-schema.schema c.in_ok-policy.policy (seen c.args.files.now) (seen c.read_file.new.files) (seen c.read_file-2.new.files) (seen c.read_tables.new.files) e
    c.in_ok-bytes.ensures c.in_ok-schema.ensures.reads c.in_ok-text.ensures c.in_ok-policy.ensures.reads c.in_err-tables.ensures.follows)

pub returns-clause-follows : goal.returns-clause-follows
returns-clause-follows g c =
    let seen = g.F.Files.seen in
    named_ok _ c.in_ok-bytes.bytes c.in_ok-text.text c.in_ok-schema.schema c.in_ok-policy.policy c.in_ok-tables.tables (seen c.args.files.now) (seen c.read_file.new.files) (seen c.read_file-2.new.files) (seen c.read_tables.new.files) _ _
    c.in_ok-bytes.ensures c.in_ok-schema.ensures.reads c.in_ok-text.ensures c.in_ok-policy.ensures.reads c.in_ok-tables.ensures.follows c.read_rest.ensures.follows
