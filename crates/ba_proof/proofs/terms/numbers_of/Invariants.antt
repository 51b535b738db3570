use Rattle.serde_json.specs.View.{view}
use Rattle.ba_proof.specs.Steps.{number_at}
use Rattle.ba_proof.proofs.EachLemmas.{EachAt}
use Rattle.ba_proof.proofs.terms.numbers_of.Given as goal

abbrev pub invariant-loop-item : goal.invariant-loop-item
invariant-loop-item l = EachAt view number_at l.items l.item-index l.found
