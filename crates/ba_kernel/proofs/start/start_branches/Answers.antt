use Rattle.ba_kernel.proofs.BuildStarts.{part_of_goal, starts_more}
use Rattle.ba_kernel.proofs.start.start_branches.Goals as goal

pub part_start-requires-clause-part : goal.part_start-requires-clause-part
part_start-requires-clause-part c =
    part_of_goal c.args.problem.now c.goal_parts-part-items.result.now c.requires c.loop-part.part-index c.part-item.result c.goal_parts-part-items.ensures
    c.loop-part-test.true c.part-item.is

pub loop-part-preserved : goal.loop-part-preserved
loop-part-preserved c =
    starts_more c.args.problem.now c.goal_parts-part-items.result.now c.loop-part.part-index c.part-item.result c.loop-part.slots.items c.push.new.self.items
    c.in_ok-part_start.field-0 c.loop-part-test.true c.part-item.is c.loop-part.invariant c.in_ok-part_start.ensures c.in_ok-push.ensures.items
