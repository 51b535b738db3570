use Rattle.std.proofs.Common.{◌≡◌, map, drop}
use Rattle.serde_json.specs.View.{members_view}
use Rattle.ba_printed.specs.Shapes.{keys_are}
use Rattle.ba_printed.proofs.shapes.keys_are.Given as goal

-- what is left of both has the answer for both
abbrev pub invariant-loop-name : goal.invariant-loop-name
invariant-loop-name l =
    (goal.iterator-loop-name).can_next l.rest × (goal.iterator-loop-name).is_finite l.rest
    × (keys_are (map (λ s. s.now) (drop l.name-index l.names)) (members_view l.rest) ≡ keys_are (map (λ s. s.now) l.names) (members_view l.members.entries))
