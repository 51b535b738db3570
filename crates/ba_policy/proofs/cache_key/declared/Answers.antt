use Rattle.ba_policy.proofs.KeyLemmas.{declared_more}
use Rattle.ba_policy.proofs.cache_key.declared.Goals as goal

pub loop-at-preserved : goal.loop-at-preserved
loop-at-preserved c =
    declared_more c.args.count c.args.all.now c.loop-at.at c.index-all-at.result c.in_ok-it.it c.loop-at.found c.push.new.self
    c.loop-at.invariant c.loop-at-test.true c.index-all-at.is c.in_ok-it.ensures c.in_ok-push.ensures.ok
