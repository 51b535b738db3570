use Rattle.std.proofs.Common.{◌≡◌, map, take}
use Rattle.serde_json.specs.View.{view}
use Rattle.ba_evidence.specs.Evidence.{part_json}
use Rattle.ba_evidence.proofs.answer.cover_json.Given as goal

abbrev pub invariant-loop-part : goal.invariant-loop-part
invariant-loop-part l = map view l.items.items ≡ map part_json (take l.part-index l.parts)
