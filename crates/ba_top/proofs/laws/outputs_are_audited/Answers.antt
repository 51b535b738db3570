use Rattle.ba_top.proofs.AuditedLemmas.{output_audited}
use Rattle.ba_top.proofs.laws.outputs_are_audited.Goals as goal

pub returns : goal.returns
returns c = output_audited
