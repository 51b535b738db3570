use Rattle.std.proofs.Common.{◌++◌, map}
use Rattle.ba_sql_query.proofs.StackLemmas.{flat_more}
use Rattle.ba_sql_query.proofs.expand.product.Goals as goal

pub loop-member-preserved : goal.loop-member-preserved
loop-member-preserved c =
    flat_more (λ a. map (λ b. a ++ b) c.args.right.now) c.args.left.now c.loop-member.member-index c.member-item.result c.loop-member.found.items _ _ c.loop-member-test.true c.member-item.is c.loop-member.invariant c.in_ok-more.ensures c.in_ok-append.ensures.items
