use Rattle.std.proofs.Common.{take}
use Rattle.ba_refute.proofs.ComparedLemmas.{IsSoFar}
use Rattle.ba_refute.proofs.numbers.node_numbers.Given as goal

abbrev pub invariant-loop-n : goal.invariant-loop-n
invariant-loop-n l = IsSoFar l.known l.used (take l.n-index l.nodes) l.valued.items l.taken l.numbers.items
