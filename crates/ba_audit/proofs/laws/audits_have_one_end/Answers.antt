use Rattle.ba_audit.proofs.OneEndLemmas.{one_end}
use Rattle.ba_audit.proofs.laws.audits_have_one_end.Goals as goal

pub returns : goal.returns
returns c = one_end
