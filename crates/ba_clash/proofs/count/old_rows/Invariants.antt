use Rattle.std.proofs.Common.{◌≡◌, ◌-◌, ◌^◌, min, take}
use Rattle.ba_clash.specs.Clash.{told_rows}
use Rattle.ba_clash.proofs.count.old_rows.Given as goal

abbrev pub invariant-loop-number : goal.invariant-loop-number
invariant-loop-number l = l.sum ≡ min (told_rows (take l.number l.trace)) (2 ^ 64 - 1)
