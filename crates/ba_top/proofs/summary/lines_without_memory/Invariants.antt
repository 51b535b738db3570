use Rattle.std.proofs.Common.{◌≡◌, ◌≤◌, count_by, take}
use Rattle.ba_lanes.specs.Legal.{is_memory}
use Rattle.ba_top.proofs.summary.lines_without_memory.Given as goal

-- how many of the entries so far found no memory
abbrev pub invariant-loop-entry : goal.invariant-loop-entry
invariant-loop-entry l = record {
  is : l.count ≡ count_by is_memory (take l.entry-index l.journal.entries);
  few : l.count ≤ l.entry-index;
}
