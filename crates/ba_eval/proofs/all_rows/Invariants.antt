use Rattle.std.proofs.Common.{take, []}
use Rattle.std.specs.Prelude.{IsTrue}
use Rattle.ba_model.specs.Meaning.{InPart}
use Rattle.ba_eval.specs.Search.{Adds, BySome}
use Rattle.ba_eval.specs.Visits.{StepsWithin}
use Rattle.ba_eval.proofs.all_rows.Given as goal

-- what was found comes by the parts so far, and so do the steps
abbrev pub invariant-loop-part : goal.invariant-loop-part
invariant-loop-part g l = record {
  found : Adds (BySome (InPart l.ctx l.rows) (take l.part-index l.part-items)) [] l.found;
  steps : IsTrue l.bounded → StepsWithin l.ctx l.rows (take l.part-index l.part-items) l.fn.steps l.steps;
}
