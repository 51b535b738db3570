use Rattle.std.proofs.Common.{map, take}
use Rattle.ba_judge.specs.Judging.{seen}
use Rattle.ba_decide.specs.Evident.{AreEvidence, told_evidence}
use Rattle.ba_decide.proofs.evident.parts_told.Given as goal

-- the first parts are told
abbrev pub invariant-loop-i : goal.invariant-loop-i
invariant-loop-i l = AreEvidence (seen l.asking) (take l.i l.parts) (take l.i l.grounds) (map told_evidence l.all.items)
