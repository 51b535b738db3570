use Rattle.std.specs.Vec.Iter.{into_iter_items}
use Rattle.ba_told.proofs.ListLemmas.{SoFar}
use Rattle.ba_told.proofs.entries.by_place.Given as goal

-- the rows so far stand in their lists
abbrev pub invariant-loop-row : goal.invariant-loop-row
invariant-loop-row l = record {
  can : (goal.iterator-loop-row).can_next l.row-iterator;
  finite : (goal.iterator-loop-row).is_finite l.row-iterator;
  so_far : SoFar l.schema l.context l.query.parts l.fn.rows (into_iter_items l.row-iterator) l.lists.items;
}
