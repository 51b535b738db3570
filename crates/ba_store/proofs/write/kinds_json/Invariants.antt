use Rattle.std.proofs.Common.{◌≡◌, map, take}
use Rattle.serde_json.specs.View.{view}
use Rattle.ba_store.specs.Written.{kind_json}
use Rattle.ba_store.proofs.write.kinds_json.Given as goal

abbrev pub invariant-loop-kind : goal.invariant-loop-kind
invariant-loop-kind l = map view l.items.items ≡ map kind_json (take l.kind-index l.kinds)
