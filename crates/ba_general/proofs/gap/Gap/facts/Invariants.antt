use Rattle.std.proofs.Common.{take}
use Rattle.std.specs.List.{AllZip}
use Rattle.ba_general.specs.Leaving.{IsClosedUp}
use Rattle.ba_general.proofs.gap.Gap.facts.Given as goal

abbrev pub invariant-loop-fact : goal.invariant-loop-fact
invariant-loop-fact l = AllZip (IsClosedUp l.self.facts) (take l.fact-index l.fact-items) l.all
