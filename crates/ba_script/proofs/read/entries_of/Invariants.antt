use Rattle.std.proofs.Common.{◌≡◌, ◌+◌, ◌≤◌, [], length}
use Rattle.ba_model.specs.Limits.{most_lines}
use Rattle.ba_script.specs.Reading.{entries_from}
use Rattle.ba_script.specs.Tracking.{Tracks}
use Rattle.ba_script.proofs.read.entries_of.Given as goal

-- the entries so far, and those of the lines that are left, are the whole, and are few
abbrev pub invariant-loop-bytes : goal.invariant-loop-bytes
invariant-loop-bytes l = Tracks l.entries l.requests × (entries_from l.params l.keys l.entries l.bytes-iterator ≡ entries_from l.params l.keys [] l.fn.lines) × (length l.entries + length l.bytes-iterator ≤ most_lines)
