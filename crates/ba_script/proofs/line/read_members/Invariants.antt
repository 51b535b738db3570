use Rattle.std.proofs.Common.{◌≡◌, ◌++◌}
use Rattle.serde_json.specs.View.{members_view}
use Rattle.ba_script.specs.Script.{given_members}
use Rattle.ba_script.proofs.line.read_members.Given as goal

abbrev pub invariant-loop-name : goal.invariant-loop-name
invariant-loop-name l = l.list ++ given_members (members_view l.name-iterator) ≡ given_members (members_view l.members.entries)
