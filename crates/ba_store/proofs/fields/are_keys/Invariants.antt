use Rattle.std.proofs.Common.{◌≡◌}
use Rattle.serde_json.specs.View.{members_view}
use Rattle.ba_store.specs.Reading.{are_keys}
use Rattle.ba_store.proofs.fields.are_keys.Given as goal

-- the names so far are keys
abbrev pub invariant-loop-name : goal.invariant-loop-name
invariant-loop-name l = are_keys (members_view l.name-iterator) ≡ are_keys (members_view l.members.entries)
