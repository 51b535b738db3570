use Rattle.std.proofs.Common.{◌≡◌, All, map, take}
use Rattle.serde_json.specs.View.{view}
use Rattle.ba_proof.specs.ReadBack.{IsShort}
use Rattle.ba_proof.specs.Written.{count}
use Rattle.ba_proof.proofs.write.facts_json.Given as goal

abbrev pub invariant-loop-fact : goal.invariant-loop-fact
invariant-loop-fact l = (map view l.items.items ≡ map count (take l.fact-index l.facts)) × All IsShort (take l.fact-index l.facts)
