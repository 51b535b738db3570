use Rattle.ba_script_print.proofs.HeldLemmas.{text_reads_back}
use Rattle.ba_script_print.proofs.laws.text_reads_back.Goals as goal

pub returns : goal.returns
returns c = text_reads_back
