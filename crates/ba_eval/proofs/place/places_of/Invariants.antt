use Rattle.std.proofs.Common.{◌≡◌, ◌+◌, ◌≤◌, length, map, take}
use Rattle.std.specs.List.{sum_by}
use Rattle.ba_model.specs.Meaning.{rows_of}
use Rattle.ba_eval.proofs.GatherLemmas.{table_of}
use Rattle.ba_eval.specs.Index.{ArePlaces}
use Rattle.ba_eval.proofs.place.places_of.Given as goal

-- the places so far are those of the tables so far, of which each row was read
abbrev pub invariant-loop-table : goal.invariant-loop-table
invariant-loop-table g l = record {
  tables : map table_of l.places.items ≡ take l.table-index l.table-items;
  places : ArePlaces l.search.bounded l.search.ctx.now l.search.rows.now l.search.part.now 0 l.places.items;
  steps : l.steps ≤ l.fn.steps + sum_by (λ table. length (rows_of l.search.rows.now table)) (take l.table-index l.table-items);
}
