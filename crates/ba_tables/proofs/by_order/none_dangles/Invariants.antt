use Rattle.std.proofs.Common.{◌≡◌, ◌+◌, drop}
use Rattle.std.specs.List.{position_from}
use Rattle.ba_tables.specs.Broken.{dangles}
use Rattle.ba_tables.proofs.by_order.none_dangles.Given as goal

abbrev pub invariant-loop-i : goal.invariant-loop-i
invariant-loop-i l = position_from (dangles l.link l.targets) (l.i + 1) (drop l.i l.rows) ≡ position_from (dangles l.link l.targets) 1 l.rows
