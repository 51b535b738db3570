use Rattle.std.proofs.Common.{take}
use Rattle.ba_refute.specs.Counterexamples.{ViewsWithin}
use Rattle.ba_refute.proofs.within.views_pass.Given as goal

abbrev pub invariant-loop-view : goal.invariant-loop-view
invariant-loop-view l = ViewsWithin (take l.view-index l.views) l.ctx l.one l.two
