use Rattle.std.proofs.Common.{◌≡◌, All, map, take}
use Rattle.serde_json.specs.View.{view}
use Rattle.ba_proof.specs.ReadBack.{StepHasBits}
use Rattle.ba_proof.specs.Written.{step_json}
use Rattle.ba_proof.proofs.write.steps_json.Given as goal

abbrev pub invariant-loop-step : goal.invariant-loop-step
invariant-loop-step l = (map view l.items.items ≡ map (step_json l.params l.vars) (take l.step-index l.steps)) × All StepHasBits (take l.step-index l.steps)
