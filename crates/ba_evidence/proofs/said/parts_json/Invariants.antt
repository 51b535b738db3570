use Rattle.std.proofs.Common.{◌≡◌, map, take}
use Rattle.serde_json.specs.View.{view}
use Rattle.ba_evidence.specs.Evidence.{evidence}
use Rattle.ba_evidence.specs.Said.{part_ground_json}
use Rattle.ba_evidence.proofs.said.parts_json.Given as goal

abbrev pub invariant-loop-part : goal.invariant-loop-part
invariant-loop-part l = map view l.items.items ≡ map (part_ground_json l.params) (map evidence (take l.part-index l.parts))
