use Rattle.std.proofs.Common.{◌≡◌, ◌-◌, ◌^◌, min, take}
use Rattle.ba_clash.specs.Clash.{told_rows}
use Rattle.ba_clash.proofs.count.new_rows.Given as goal

abbrev pub invariant-loop-entry : goal.invariant-loop-entry
invariant-loop-entry l = l.sum ≡ min (told_rows (take l.entry-index l.entries)) (2 ^ 64 - 1)
