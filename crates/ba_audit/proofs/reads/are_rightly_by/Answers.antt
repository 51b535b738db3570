use Rattle.ba_audit.specs.Tests.{IsRightlyBy}
use Rattle.ba_direct.proofs.ResultLemmas.{AllZip-further}
use Rattle.ba_audit.proofs.ReadLemmas.{zip_not}
use Rattle.ba_audit.proofs.TestLemmas.{is_true}
use Rattle.ba_audit.proofs.reads.are_rightly_by.Goals as goal

pub loop-i-preserved : goal.loop-i-preserved
loop-i-preserved c =
    AllZip-further (IsRightlyBy c.args.policy.now c.args.asker.now) _ _ _ _ _ c.get-query.ensures c.get.ensures c.loop-i.invariant (c.in_ok-right.ensures.0 (is_true c.if-not-right.false))

pub returns-then-not-right : goal.returns-then-not-right
returns-then-not-right c =
    zip_not (IsRightlyBy c.args.policy.now c.args.asker.now) c.args.queries.now c.args.evidence.now c.loop-i.i _ _ c.get-query.ensures c.get.ensures c.in_ok-right.right c.in_ok-right.ensures c.if-not-right.true
