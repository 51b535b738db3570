use Rattle.std.proofs.Common.{map, ap}
use Rattle.ba_eval.proofs.SearchLemmas.{part_lacks, none_in_parts}
use Rattle.ba_eval.proofs.contains.Goals as goal

pub loop-part-preserved : goal.loop-part-preserved
loop-part-preserved c =
    part_lacks _ _ _ _ _ c.loop-part-test.true c.part-item.is _ c.as_slice.ensures _ (ap (map (λ row. row.now)) c.new-chosen.ensures.items) _ c.loop-part.invariant
    (λ h. let t = c.in_ok-found.ensures.found.1 h in cc)

pub returns : goal.returns
returns c = (
  λ e. cc,
  λ h. absurd (none_in_parts _ _ _ _ c.as_slice-part-items.ensures c.loop-part.part-index _ c.loop-part-test.false c.loop-part.invariant h),
)
