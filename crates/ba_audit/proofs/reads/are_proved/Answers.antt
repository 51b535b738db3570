use Rattle.ba_audit.specs.Tests.{IsProved}
use Rattle.ba_direct.proofs.ResultLemmas.{AllZip-further}
use Rattle.ba_audit.proofs.ReadLemmas.{zip_not}
use Rattle.ba_audit.proofs.TestLemmas.{is_true}
use Rattle.ba_audit.proofs.reads.are_proved.Goals as goal

pub loop-i-preserved : goal.loop-i-preserved
loop-i-preserved c =
    AllZip-further (IsProved c.args.policy.now c.args.asker.now) _ _ _ _ _ c.get-query.ensures c.get.ensures c.loop-i.invariant (c.in_ok-proved.ensures.0 (is_true c.if-not-proved.false))

pub returns-then-not-proved : goal.returns-then-not-proved
returns-then-not-proved c =
    zip_not (IsProved c.args.policy.now c.args.asker.now) c.args.queries.now c.args.evidence.now c.loop-i.i _ _ c.get-query.ensures c.get.ensures c.in_ok-proved.proved c.in_ok-proved.ensures c.if-not-proved.true
