use Rattle.ba_input.specs.Reading.{names_of}
use Rattle.ba_input.proofs.InputLemmas.{comes_audit}
use Rattle.ba_input.proofs.command.read_audited.Goals as goal

pub returns-clause-comes : goal.returns-clause-comes
returns-clause-comes g c =
    let seen = g.F.Files.seen in
    comes_audit c.args.schema.now c.args.policy.now c.args.tables.now c.args.script.now c.args.output.now (names_of c.named_run-given.result) c.as_str.result.now (seen c.args.files.now) (seen c.read_audit.new.files) c.read_audit.result
    c.named_run-given.ensures c.as_str.ensures c.read_audit.ensures.follows
