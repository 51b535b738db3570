use Rattle.std.proofs.Common.{◌≡◌, All, map, take}
use Rattle.serde_json.specs.View.{view}
use Rattle.ba_store.specs.ReadBack.{PartHasBits}
use Rattle.ba_store.specs.Written.{part_json}
use Rattle.ba_store.proofs.write.parts_json.Given as goal

abbrev pub invariant-loop-part : goal.invariant-loop-part
invariant-loop-part l = (map view l.items.items ≡ map (part_json l.policy.schema l.policy.params) (take l.part-index l.parts)) × All PartHasBits (take l.part-index l.parts)
