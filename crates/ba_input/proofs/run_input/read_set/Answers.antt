use Rattle.std.proofs.lemmas.Result.{err_from_is_err_and}
use Rattle.ba_input.proofs.InputLemmas.{set_err, set_ok}
use Rattle.ba_input.proofs.run_input.read_set.Goals as goal

pub returns-in_err-tables-clause-follows : goal.returns-in_err-tables-clause-follows
returns-in_err-tables-clause-follows g c =
    let seen = g.F.Files.seen in
    let p = err_from_is_err_and c.from_residual.result c.from_residual.ensures.1 in
    let e = c.in_err-tables.field-0.0 in
    rw (p.1, p.2) (set_err c.as_str.result.now c.in-Publish.set _ c.args.schema.now c.args.entry.now (seen c.args.files.now) (seen c.read_tables.new.files) e c.in-Publish.is c.as_str.ensures c.in_err-tables.ensures.follows)

pub returns-clause-follows : goal.returns-clause-follows
returns-clause-follows g c =
    let seen = g.F.Files.seen in
    set_ok c.as_str.result.now c.in-Publish.set _ c.args.schema.now c.args.entry.now c.in_ok-tables.tables (seen c.args.files.now) (seen c.read_tables.new.files) c.in-Publish.is c.as_str.ensures c.in_ok-tables.ensures.follows
