use Rattle.std.proofs.Common.{◌≡◌}
use Rattle.std.specs.List.{flat_map, range_with_len}
use Rattle.ba_sql_query.specs.Resolve.{source_columns}
use Rattle.ba_sql_query.proofs.resolve.all_columns.Given as goal

abbrev pub invariant-loop-place : goal.invariant-loop-place
invariant-loop-place l = l.found.items ≡ flat_map (source_columns l.schema l.from) (range_with_len 0 l.place)
