use Rattle.std.proofs.Common.{map, take}
use Rattle.ba_refute.specs.Images.{IsMarks}
use Rattle.ba_refute.proofs.texts.marks.Given as goal

abbrev pub invariant-loop-value : goal.invariant-loop-value
invariant-loop-value l = IsMarks (map (λ v. v.now) (take l.value-index l.values)) l.marks
