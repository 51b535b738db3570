use Rattle.ba_input.proofs.InputLemmas.{comes_check}
use Rattle.ba_input.proofs.command.read_checked.Goals as goal

pub returns-clause-comes : goal.returns-clause-comes
returns-clause-comes g c =
    let seen = g.F.Files.seen in
    comes_check c.args.schema.now c.args.policy.now c.args.proof.now _ _ _ (seen c.args.files.now) (seen c.read_check.new.files) c.read_check.result
    c.as_str.ensures c.as_str-2.ensures c.as_str-3.ensures c.read_check.ensures.follows
