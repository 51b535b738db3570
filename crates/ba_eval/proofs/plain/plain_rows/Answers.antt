use Rattle.std.proofs.Common.{map, ap}
use Rattle.ba_eval.proofs.SearchLemmas.{gathers_part, parts_all}
use Rattle.ba_eval.proofs.plain.plain_rows.Goals as goal

pub loop-part-preserved : goal.loop-part-preserved
loop-part-preserved c =
    gathers_part _ _ _ _ _ c.loop-part-test.true c.part-item.is _ c.as_slice.ensures _ (ap (map (λ row. row.now)) c.new-chosen.ensures.items) _ _ _ c.loop-part.invariant c.in_ok-gather_plainly.ensures.found

pub returns : goal.returns
returns c = parts_all _ _ _ _ c.as_slice-part-items.ensures c.loop-part.part-index _ _ c.loop-part-test.false c.loop-part.invariant
