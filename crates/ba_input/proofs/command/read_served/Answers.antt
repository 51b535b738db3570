use Rattle.std.proofs.Common.{ap}
use Rattle.std.specs.Option.{option_copied}
use Rattle.std.proofs.lemmas.Result.{err_from_is_err_and}
use Rattle.ba_input.proofs.InputLemmas.{served_err, served_none, served_some}
use Rattle.ba_input.proofs.command.read_served.Goals as goal

pub returns-in_err-input-clause-comes : goal.returns-in_err-input-clause-comes
returns-in_err-input-clause-comes g c =
    let seen = g.F.Files.seen in
    let p = err_from_is_err_and c.from_residual.result c.from_residual.ensures.1 in
    let e = c.in_err-input.field-0.0 in
    rw (p.1, p.2) (served_err c.args.told (option_copied c.args.load) _ (seen c.args.files.now) (seen c.read_named.new.files) e c.in_err-input.ensures.follows)

pub returns-in-Some-clause-comes : goal.returns-in-Some-clause-comes
returns-in-Some-clause-comes g c =
    let seen = g.F.Files.seen in
    served_some c.args.told (option_copied c.args.load) c.in-Some.file.now _ c.in_ok-input.input (seen c.args.files.now) (seen c.read_named.new.files) (seen c.read_loading.new.files) c.read_loading.result
    (ap option_copied c.in-Some.is) c.in_ok-input.ensures.follows c.read_loading.ensures.comes

pub returns-in-None-clause-comes : goal.returns-in-None-clause-comes
returns-in-None-clause-comes g c =
    let seen = g.F.Files.seen in
    served_none c.args.told (option_copied c.args.load) _ c.in_ok-input.input (seen c.args.files.now) (seen c.read_named.new.files) (ap option_copied c.in-None.is) c.in_ok-input.ensures.follows
