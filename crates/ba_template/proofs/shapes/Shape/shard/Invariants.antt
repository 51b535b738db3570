use Rattle.std.proofs.Common.{◌≡◌, ◌%◌, take}
use Rattle.std.specs.List.{sum_by}
use Rattle.ba_template.specs.Shapes.{weight}
use Rattle.ba_model.specs.Limits.{shard_count}
use Rattle.ba_template.proofs.shapes.Shape.shard.Given as goal

abbrev pub invariant-loop-part : goal.invariant-loop-part
invariant-loop-part l = l.total ≡ sum_by weight (take l.part-index l.part-items) % shard_count
