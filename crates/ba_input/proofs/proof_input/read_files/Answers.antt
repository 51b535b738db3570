use Rattle.ba_input.proofs.InputLemmas.{proof_ok}
use Rattle.ba_input.proofs.proof_input.read_files.Goals as goal

pub returns-clause-follows : goal.returns-clause-follows
returns-clause-follows g c =
    let seen = g.F.Files.seen in
    proof_ok _ c.in_ok-bytes.bytes c.in_ok-text.text c.in_ok-schema.schema c.in_ok-policy.policy (seen c.args.files.now) (seen c.read_file.new.files) (seen c.read_file-2.new.files) _ _
    c.in_ok-bytes.ensures c.in_ok-schema.ensures.reads c.in_ok-text.ensures c.in_ok-policy.ensures.reads c.read_last.ensures.follows
