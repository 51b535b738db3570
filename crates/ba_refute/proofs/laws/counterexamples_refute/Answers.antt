use Rattle.ba_refute.proofs.RefuteLemmas.{refutes}
use Rattle.ba_refute.proofs.laws.counterexamples_refute.Goals as goal

pub returns : goal.returns
returns c = refutes
