use Rattle.ba_script_print.proofs.ReadBackLemmas.{only_spelled}
use Rattle.ba_script_print.proofs.laws.only_spelled_are_read.Goals as goal

pub returns : goal.returns
returns c = only_spelled
