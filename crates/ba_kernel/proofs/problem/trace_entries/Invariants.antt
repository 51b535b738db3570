use Rattle.std.proofs.Common.{◌≡◌, take}
use Rattle.std.specs.List.{flat_map}
use Rattle.ba_kernel.specs.Problems.{entries_of}
use Rattle.ba_kernel.proofs.problem.trace_entries.Given as goal

-- the entries so far are those of the queries so far
abbrev pub invariant-loop-i : goal.invariant-loop-i
invariant-loop-i l = l.entries.items ≡ flat_map entries_of (take l.i l.trace)
