use Rattle.std.proofs.Common.{◌∙◌, [], ap, subst, Err, Ok}
use Rattle.std.proofs.lemmas.Result.{err_from_is_err_and}
use Rattle.ba_model.specs.declared.schema.Schema.{Schema}
use Rattle.ba_plan.specs.Follows.{Follows}
use Rattle.ba_input.specs.Reading.{rows_plan}
use Rattle.ba_input.proofs.InputLemmas.{tables_err, tables_ok}
use Rattle.ba_input.proofs.run_input.read_tables.Goals as goal

pub returns-in_err-lists-clause-follows : goal.returns-in_err-lists-clause-follows
returns-in_err-lists-clause-follows g c =
    let seen = g.F.Files.seen in
    let p = err_from_is_err_and c.from_residual.result c.from_residual.ensures.1 in
    let e = c.in_err-lists.field-0.0 in
    rw (p.1, p.2) (tables_err c.args.set.now c.args.schema.now (seen c.args.files.now) (seen c.read_rows.new.files) e
    (subst (λ z. Follows (rows_plan c.args.set.now z []) (seen c.args.files.now) (seen c.read_rows.new.files) (Err e)) (c.as_slice.ensures ∙ ap (λ (s : Schema). s.tables) c.deref.ensures) c.in_err-lists.ensures.follows))

pub returns-clause-follows : goal.returns-clause-follows
returns-clause-follows g c =
    let seen = g.F.Files.seen in
    tables_ok c.args.set.now c.args.schema.now c.in_ok-lists.lists (seen c.args.files.now) (seen c.read_rows.new.files) c.checked_at.result
    (subst (λ z. Follows (rows_plan c.args.set.now z []) (seen c.args.files.now) (seen c.read_rows.new.files) (Ok c.in_ok-lists.lists)) (c.as_slice.ensures ∙ ap (λ (s : Schema). s.tables) c.deref.ensures) c.in_ok-lists.ensures.follows) c.checked_at.ensures.reads
