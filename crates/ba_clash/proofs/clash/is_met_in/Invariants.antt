use Rattle.ba_clash.specs.Steps.{IsMetAt, NoneBelow}
use Rattle.ba_clash.proofs.clash.is_met_in.Given as goal

abbrev pub invariant-loop-place : goal.invariant-loop-place
invariant-loop-place l =
    NoneBelow (IsMetAt l.schema l.context l.old l.new l.part l.rows) l.place
