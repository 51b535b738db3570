use Rattle.serde_json.specs.View.{view}
use Rattle.ba_proof.proofs.EachLemmas.{EachAt}
use Rattle.ba_printed.specs.Reading.{by_at}
use Rattle.ba_printed.proofs.reads.names_of.Given as goal

abbrev pub invariant-loop-name : goal.invariant-loop-name
invariant-loop-name l = EachAt view by_at l.names l.name-index l.bys
