use Rattle.std.proofs.Common.{◌≢◌, take}
use Rattle.std.specs.Prelude.{All}
use Rattle.ba_core.specs.declared.event.Ground.TheVariants.{Refuse}
use Rattle.ba_core.proofs.machine.allows.Given as goal

abbrev pub invariant-loop-why : goal.invariant-loop-why
invariant-loop-why l = All (λ why. why ≢ Refuse) (take l.why-index l.grounds)
