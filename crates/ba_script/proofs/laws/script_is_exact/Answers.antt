use Rattle.ba_script.proofs.SaysLemmas.{reads_script, refuses_script, script_reads, script_refuses}
use Rattle.ba_script.proofs.laws.script_is_exact.Goals as goal

pub returns : goal.returns
returns c = record {
  reads = λ params keys bytes s. (script_reads params keys bytes s, reads_script params keys bytes s);
  refuses = λ params keys bytes f. (script_refuses params keys bytes f, refuses_script params keys bytes f);
}
