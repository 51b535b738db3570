use Rattle.std.proofs.Common.{◌≡◌, ◌++◌, map, take}
use Rattle.ba_kernel.proofs.AskedLemmas.{entry_of}
use Rattle.ba_kernel.proofs.problem.add_entries.Given as goal

-- an entry was added for each row so far
abbrev pub invariant-loop-row : goal.invariant-loop-row
invariant-loop-row l = l.entries.items ≡ l.fn.entries.items ++ map (entry_of l.it.query) (take l.row-index l.row-items)
