use Rattle.std.proofs.Common.{take}
use Rattle.ba_refute.specs.Images.{IsRowAt}
use Rattle.ba_refute.proofs.rows.row_of.Given as goal

abbrev pub invariant-loop-term : goal.invariant-loop-term
invariant-loop-term l = IsRowAt l.ctx l.values (take l.term-index l.terms) l.row.items
