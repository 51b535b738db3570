use Rattle.std.proofs.Common.{◌≡◌, All, map, take}
use Rattle.serde_json.specs.View.{view}
use Rattle.ba_store.specs.ReadBack.{EntryHasBits}
use Rattle.ba_store.specs.Written.{entry_json}
use Rattle.ba_store.proofs.write.entries_json.Given as goal

abbrev pub invariant-loop-entry : goal.invariant-loop-entry
invariant-loop-entry l = (map view l.items.items ≡ map (entry_json l.policy.schema l.policy.params) (take l.entry-index l.entries)) × All EntryHasBits (take l.entry-index l.entries)
