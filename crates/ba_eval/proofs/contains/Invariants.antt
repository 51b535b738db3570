use Rattle.std.proofs.Common.{take}
use Rattle.ba_model.specs.Meaning.{InPart}
use Rattle.ba_eval.specs.Search.{BySome}
use Rattle.ba_eval.proofs.contains.Given as goal

-- none of the parts so far gives the row
abbrev pub invariant-loop-part : goal.invariant-loop-part
invariant-loop-part l = BySome (InPart l.ctx l.rows) (take l.part-index l.part-items) l.row → ⊥
