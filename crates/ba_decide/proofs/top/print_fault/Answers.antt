use Rattle.ba_plan.proofs.SendingLines.{lines_no_memory}
use Rattle.ba_decide.proofs.top.print_fault.Goals as goal

pub returns-in_default : goal.returns-in_default
returns-in_default g c = lines_no_memory (Unit {0}) _ _
