use Rattle.ba_audit.proofs.HeardLemmas.{heard_block}
use Rattle.ba_audit.proofs.heard.hear_query.Goals as goal

pub returns-in-Block-clause-heard : goal.returns-in-Block-clause-heard
returns-in-Block-clause-heard c =
    heard_block c.args.policy.now c.args.asker.now c.args.query c.args.line.now c.in-Block.is c.in_ok-unmet-in-Block.unmet c.in_ok-unmet-in-Block.ensures c.in-None.is
