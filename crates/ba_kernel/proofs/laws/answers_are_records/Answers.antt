use Rattle.ba_kernel.proofs.AskedLemmas.{answers_are_records}
use Rattle.ba_kernel.proofs.laws.answers_are_records.Goals as goal

pub returns : goal.returns
returns c = answers_are_records
