use Rattle.std.proofs.Common.{take}
use Rattle.std.specs.Prelude.{All}
use Rattle.ba_core.specs.Steps.{HasTemplate}
use Rattle.ba_core.proofs.ground.have_templates.Given as goal

abbrev pub invariant-loop-why : goal.invariant-loop-why
invariant-loop-why l = All (HasTemplate l.templates) (take l.why-index l.grounds)
