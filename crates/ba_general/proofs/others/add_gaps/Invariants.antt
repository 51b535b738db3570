use Rattle.std.proofs.Common.{◌≡◌, ◌++◌, replicate}
use Rattle.ba_general.proofs.others.add_gaps.Given as goal

abbrev pub invariant-loop : goal.invariant-loop
invariant-loop l = l.gaps.items ≡ l.fn.gaps.items ++ replicate l.counter l.gap
