use Rattle.std.proofs.Common.{inr, refl}
use Rattle.ba_plan.proofs.SendingLines.{lines_no_memory}
use Rattle.ba_decide.specs.Text.{memory_bytes}
use Rattle.ba_decide.proofs.serve.say.Goals as goal

pub returns-in_default : goal.returns-in_default
returns-in_default g c = (memory_bytes c.args.line, inr refl, lines_no_memory (Unit {0}) _ _)
