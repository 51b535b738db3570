use Rattle.ba_script.proofs.NullLemmas.{null_no_context}
use Rattle.ba_script.proofs.laws.null_is_no_context.Goals as goal

pub returns : goal.returns
returns c = null_no_context
