use Rattle.std.proofs.Common.{◌≡◌, ◌%◌, take}
use Rattle.std.specs.List.{sum}
use Rattle.ba_model.specs.Limits.{shard_count}
use Rattle.ba_template.proofs.shapes.table_shard.Given as goal

abbrev pub invariant-loop-table : goal.invariant-loop-table
invariant-loop-table l = l.total ≡ sum (take l.table-index l.from) % shard_count
