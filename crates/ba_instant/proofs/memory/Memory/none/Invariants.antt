use Rattle.std.proofs.Common.{◌≡◌, length}
use Rattle.ba_instant.proofs.ToldLemmas.{AreToldSo}
use Rattle.ba_instant.proofs.memory.Memory.none.Given as goal

-- nothing of each branch so far
abbrev pub invariant-loop-number : goal.invariant-loop-number
invariant-loop-number l = record {
  count : length l.each.items ≡ l._number;
  told : AreToldSo l.search l.each.items;
}
