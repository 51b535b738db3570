use Rattle.std.proofs.Common.{take}
use Rattle.ba_parts.specs.Parts.{Chosen}
use Rattle.ba_weaker.specs.Weaker.{IsShared}
use Rattle.ba_weaker.proofs.weaken.shared_conds.Given as goal

-- those of the conditions so far that each of the parts has
abbrev pub invariant-loop-atom : goal.invariant-loop-atom
invariant-loop-atom l = Chosen (IsShared l.parts) (take l.atom-index l.conds) l.shared
