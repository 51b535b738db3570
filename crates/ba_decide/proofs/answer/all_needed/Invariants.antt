use Rattle.std.proofs.Common.{◌≡◌, map, take}
use Rattle.ba_decide.specs.Text.{needed}
use Rattle.ba_decide.proofs.answer.all_needed.Given as goal

abbrev pub invariant-loop-allowed : goal.invariant-loop-allowed
invariant-loop-allowed l = l.found ≡ map needed (take l.allowed-index l.all)
