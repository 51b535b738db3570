use Rattle.serde_json.specs.View.{view}
use Rattle.ba_proof.specs.Steps.{step_at}
use Rattle.ba_proof.proofs.EachLemmas.{EachAt}
use Rattle.ba_proof.proofs.steps.steps_of.Given as goal

abbrev pub invariant-loop-item : goal.invariant-loop-item
invariant-loop-item l = EachAt view (step_at l.params l.vars l.version) l.items l.item-index l.found
