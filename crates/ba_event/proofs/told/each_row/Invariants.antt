use Rattle.ba_event.proofs.ItemLemmas.{EachAt}
use Rattle.ba_event.specs.Events.{row_at}
use Rattle.ba_event.proofs.told.each_row.Given as goal

abbrev pub invariant-loop-item : goal.invariant-loop-item
invariant-loop-item l = EachAt row_at l.items l.item-index l.rows
