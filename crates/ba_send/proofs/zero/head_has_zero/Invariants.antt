use Rattle.std.proofs.Common.{◌≡◌, map, take}
use Rattle.std.specs.List.{All, list_any}
use Rattle.ba_keys.specs.Literals.{operand_with}
use Rattle.ba_send.specs.Sendable.{has_zero}
use Rattle.ba_sql_print.specs.Spelling.{IsInRange}
use Rattle.ba_send.proofs.zero.head_has_zero.Given as goal

abbrev pub invariant-loop-operand : goal.invariant-loop-operand
invariant-loop-operand l =
    (l.found ≡ list_any has_zero (map (operand_with 0 l.values) (take l.operand-index l.head)))
    × All IsInRange (map (operand_with 0 l.values) (take l.operand-index l.head))
