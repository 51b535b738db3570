use Rattle.std.proofs.Common.{◌≡◌, map, take}
use Rattle.serde_json.specs.View.{view}
use Rattle.ba_proof.specs.Written.{count}
use Rattle.ba_evidence.proofs.answer.places_json.Given as goal

abbrev pub invariant-loop-place : goal.invariant-loop-place
invariant-loop-place l = map view l.items.items ≡ map count (take l.place-index l.places)
