use Rattle.std.proofs.Common.{◌≡◌, ◌+◌, ◌++◌, length}
use Rattle.std.specs.Vec.Iter.{into_iter_items}
use Rattle.ba_told.specs.Places.{entries_in}
use Rattle.ba_told.proofs.entries.entries_of.Given as goal

-- with those of the lists that are left, the entries are those of all lists
abbrev pub invariant-loop-rows : goal.invariant-loop-rows
invariant-loop-rows l = record {
  can : (goal.iterator-loop-rows).can_next l.rows-iterator;
  finite : (goal.iterator-loop-rows).is_finite l.rows-iterator;
  count : l.place + length (into_iter_items l.rows-iterator) ≡ length (into_iter_items l.initial.rows-iterator);
  all : l.entries.items ++ entries_in l.query l.place (into_iter_items l.rows-iterator) ≡ entries_in l.query 0 (into_iter_items l.initial.rows-iterator);
}
