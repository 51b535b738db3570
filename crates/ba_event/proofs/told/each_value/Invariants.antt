use Rattle.ba_event.proofs.ItemLemmas.{EachAt}
use Rattle.ba_event.specs.Events.{value_at}
use Rattle.ba_event.proofs.told.each_value.Given as goal

abbrev pub invariant-loop-item : goal.invariant-loop-item
invariant-loop-item l = EachAt value_at l.items l.item-index l.row
