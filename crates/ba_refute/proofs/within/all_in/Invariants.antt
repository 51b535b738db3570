use Rattle.std.proofs.Common.{All, take}
use Rattle.ba_model.specs.Meaning.{InAnswer}
use Rattle.ba_refute.proofs.within.all_in.Given as goal

abbrev pub invariant-loop-row : goal.invariant-loop-row
invariant-loop-row l = All (InAnswer l.query l.ctx l.database) (take l.row-index l.rows)
