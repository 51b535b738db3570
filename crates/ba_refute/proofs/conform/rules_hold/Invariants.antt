use Rattle.std.proofs.Common.{All, take}
use Rattle.ba_model.specs.Conform.{RuleHolds}
use Rattle.ba_refute.proofs.conform.rules_hold.Given as goal

abbrev pub invariant-loop-rule : goal.invariant-loop-rule
invariant-loop-rule l = All (RuleHolds l.rows) (take l.rule-index l.rules)
