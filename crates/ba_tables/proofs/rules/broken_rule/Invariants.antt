use Rattle.std.proofs.Common.{◌≡◌, drop}
use Rattle.ba_tables.specs.Rules.{broken_rule}
use Rattle.ba_tables.proofs.rules.broken_rule.Given as goal

abbrev pub invariant-loop-rule : goal.invariant-loop-rule
invariant-loop-rule l = broken_rule l.rule l.rows (drop l.rule l.rules) ≡ broken_rule 0 l.rows l.rules
