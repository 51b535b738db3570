use Rattle.std.proofs.Common.{◌<◌, arith, length}
use Rattle.ba_general.proofs.LayoutLemmas.{made_next}
use Rattle.ba_general.proofs.making.list_made.Goals as goal

pub loop-n-preserved : goal.loop-n-preserved
loop-n-preserved c =
    let below : c.loop-n.n < length c.args.steps.now = omega (arith, c.len-n-end.ensures, c.loop-n-test.true) in (
      made_next c.args.problem.now c.args.steps.now c.loop-n.n c.loop-n.layout.tables.items c.next_made.new.layout.tables.items c.loop-n.all.items c.push.new.self.items
          c.get.result.now c.in_ok-next_made.field-0 below c.get.ensures c.loop-n.invariant.0 c.in_ok-next_made.ensures.made c.in_ok-push.ensures.items
          c.in_ok-next_made.ensures.layout,
      c.in_ok-next_made.ensures.counted,
    )
