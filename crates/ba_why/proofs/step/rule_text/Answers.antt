use Rattle.std.proofs.Common.{subst, sym}
use Rattle.std.specs.List.{All}
use Rattle.ba_model.specs.RuleFaults.{RuleFits}
use Rattle.ba_model.specs.declared.policy.Policy.{Policy}
use Rattle.ba_why.proofs.step.rule_text.Goals as goal

pub rule_sql-requires : goal.rule_sql-requires
rule_sql-requires c = subst (λ (p : Policy). All (RuleFits p.schema) p.schema.rules) (sym c.deref.ensures) c.policy.ensures.checked.rules
