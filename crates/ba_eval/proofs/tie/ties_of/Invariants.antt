use Rattle.std.proofs.Common.{take}
use Rattle.ba_eval.specs.Index.{AreTies}
use Rattle.ba_eval.proofs.tie.ties_of.Given as goal

-- the ties so far are those of the atoms so far
abbrev pub invariant-loop-atom : goal.invariant-loop-atom
invariant-loop-atom l = AreTies l.at (take l.atom-index l.atoms) l.ties.items
