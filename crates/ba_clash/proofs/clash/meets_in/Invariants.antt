use Rattle.ba_clash.specs.Steps.{MeetsAt, NoneBelow, told_of}
use Rattle.ba_clash.proofs.clash.meets_in.Given as goal

abbrev pub invariant-loop-place : goal.invariant-loop-place
invariant-loop-place l =
    NoneBelow (MeetsAt l.context l.number l.table (told_of l.one) l.part l.rows) l.place
