use Rattle.std.proofs.Common.{◌≡◌, take}
use Rattle.ba_top.specs.Text.{summary_of}
use Rattle.ba_top.proofs.summary.count_all.Given as goal

-- what was counted of the entries so far
abbrev pub invariant-loop-entry : goal.invariant-loop-entry
invariant-loop-entry l = l.summary ≡ summary_of (take l.entry-index l.entries)
