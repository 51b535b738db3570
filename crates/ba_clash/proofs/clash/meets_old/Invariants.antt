use Rattle.ba_clash.specs.Steps.{IsSoAt, MeetsEntry, NoneBelow, told_of}
use Rattle.ba_clash.proofs.clash.meets_old.Given as goal

abbrev pub invariant-loop-at : goal.invariant-loop-at
invariant-loop-at l =
    NoneBelow (IsSoAt (MeetsEntry l.context l.number l.table (told_of l.one)) l.old) l.at
