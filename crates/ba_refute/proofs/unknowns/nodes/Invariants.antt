use Rattle.ba_refute.proofs.UnknownLemmas.{AreNodesTo}
use Rattle.ba_refute.proofs.unknowns.nodes.Given as goal

abbrev pub invariant-loop-n : goal.invariant-loop-n
invariant-loop-n l = AreNodesTo l.known l.n l.nodes.items
