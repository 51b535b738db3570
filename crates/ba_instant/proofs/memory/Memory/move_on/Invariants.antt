use Rattle.std.proofs.Common.{◌≡◌, ◌<◌, length}
use Rattle.ba_kernel.specs.Courses.{branch_of}
use Rattle.ba_instant.proofs.ToldLemmas.{AreToldSo}
use Rattle.ba_instant.proofs.memory.Memory.move_on.Given as goal

-- what is remembered of the branches so far is told, and nothing is of the step's own
abbrev pub invariant-loop-number : goal.invariant-loop-number
invariant-loop-number l = record {
  own : branch_of l.step < l.number;
  count : length l.self.each.items ≡ l.number;
  told : AreToldSo l.then l.self.each.items;
}
