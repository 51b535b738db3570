use Rattle.ba_clash.specs.Clash.{IsApart}
use Rattle.ba_clash.specs.Steps.{NoneBelow, told_of}
use Rattle.ba_clash.proofs.clash.differ.Given as goal

abbrev pub invariant-loop-column : goal.invariant-loop-column
invariant-loop-column l = NoneBelow (IsApart l.context (told_of l.one) (told_of l.other)) l.column
