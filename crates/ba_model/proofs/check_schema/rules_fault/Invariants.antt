use Rattle.std.proofs.Common.{All, take}
use Rattle.ba_model.specs.RuleFaults.{RuleFits}
use Rattle.ba_model.proofs.check_schema.rules_fault.Given as goal

-- each rule so far fits
abbrev pub invariant-loop-number : goal.invariant-loop-number
invariant-loop-number l = All (RuleFits l.schema) (take l.number l.rules)
