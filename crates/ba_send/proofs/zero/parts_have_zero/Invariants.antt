use Rattle.std.proofs.Common.{◌≡◌, map, take}
use Rattle.std.specs.List.{All, list_any}
use Rattle.ba_keys.specs.Literals.{part_with}
use Rattle.ba_send.specs.Sendable.{part_has_zero}
use Rattle.ba_sql_print.specs.Spelling.{PartInRange}
use Rattle.ba_send.proofs.zero.parts_have_zero.Given as goal

abbrev pub invariant-loop-part : goal.invariant-loop-part
invariant-loop-part l =
    (l.found ≡ list_any part_has_zero (map (part_with 0 l.values) (take l.part-index l.parts)))
    × All PartInRange (map (part_with 0 l.values) (take l.part-index l.parts))
