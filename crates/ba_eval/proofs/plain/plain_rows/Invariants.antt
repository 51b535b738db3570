use Rattle.std.proofs.Common.{take, []}
use Rattle.ba_model.specs.Meaning.{InPart}
use Rattle.ba_eval.specs.Search.{Adds, BySome}
use Rattle.ba_eval.proofs.plain.plain_rows.Given as goal

-- what was found comes by the parts so far
abbrev pub invariant-loop-part : goal.invariant-loop-part
invariant-loop-part l = Adds (BySome (InPart l.ctx l.rows) (take l.part-index l.part-items)) [] l.found
