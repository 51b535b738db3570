use Rattle.ba_general.proofs.NamesLemmas.{copy_stays}
use Rattle.ba_general.proofs.naming.Naming.operand.Goals as goal

pub returns-in_default : goal.returns-in_default
returns-in_default c = copy_stays c.args.self.now c.args.operand.now c.copy.result c.requires (λ v e. c.in_default.not-Val v e) c.copy.ensures
