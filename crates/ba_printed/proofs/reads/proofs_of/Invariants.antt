use Rattle.serde_json.specs.View.{view}
use Rattle.ba_proof.proofs.EachLemmas.{EachAt}
use Rattle.ba_printed.specs.Reading.{unnamed_of}
use Rattle.ba_printed.proofs.reads.proofs_of.Given as goal

abbrev pub invariant-loop-proof : goal.invariant-loop-proof
invariant-loop-proof l = EachAt view (unnamed_of l.params) l.proofs l.proof-index l.grounds
