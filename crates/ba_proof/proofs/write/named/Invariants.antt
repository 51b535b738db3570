use Rattle.std.proofs.Common.{◌≡◌, ◌∷◌, map, take}
use Rattle.serde_json.specs.Data.{string}
use Rattle.serde_json.specs.View.{view}
use Rattle.ba_proof.specs.Written.{count}
use Rattle.ba_proof.proofs.write.named.Given as goal

abbrev pub invariant-loop-n : goal.invariant-loop-n
invariant-loop-n l = map view l.items.items ≡ string l.name ∷ map count (take l.n-index l.numbers)
