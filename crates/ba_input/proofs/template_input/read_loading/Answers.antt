use Rattle.std.proofs.Common.{Err, Ok}
use Rattle.std.proofs.lemmas.Result.{err_from_is_err_and}
use Rattle.ba_input.proofs.InputLemmas.{loading_found}
use Rattle.ba_input.proofs.template_input.read_loading.Goals as goal

pub returns-in_err-loaded-clause-comes : goal.returns-in_err-loaded-clause-comes
returns-in_err-loaded-clause-comes g c =
    let seen = g.F.Files.seen in
    let p = err_from_is_err_and c.from_residual.result c.from_residual.ensures.1 in
    let e = c.in_err-loaded.field-0.0 in
    rw (p.1, p.2) (loading_found c.args.told c.args.file.now c.args.input (seen c.args.files.now) (seen c.read_loaded.new.files) (Err e) c.in_err-loaded.ensures.finds)

pub returns-clause-comes : goal.returns-clause-comes
returns-clause-comes g c =
    let seen = g.F.Files.seen in
    loading_found c.args.told c.args.file.now c.args.input (seen c.args.files.now) (seen c.read_loaded.new.files) (Ok c.in_ok-loaded.loaded) c.in_ok-loaded.ensures.finds
