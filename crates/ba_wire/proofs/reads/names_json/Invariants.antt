use Rattle.std.proofs.Common.{◌≡◌, map, take}
use Rattle.serde_json.specs.Data.{string}
use Rattle.serde_json.specs.View.{view}
use Rattle.ba_wire.specs.Printed.{by_name}
use Rattle.ba_wire.proofs.reads.names_json.Given as goal

abbrev pub invariant-loop-it : goal.invariant-loop-it
invariant-loop-it l = map view l.items.items ≡ map (λ it. string (by_name it)) (take l.it-index l.by)
