use Rattle.std.proofs.Common.{◌↔◌, All, IsTrue, subst}
use Rattle.std.specs.Result.{IfOk}
use Rattle.ba_model.specs.Conform.{RuleHolds}
use Rattle.ba_refute.proofs.LoopLemmas.{told}
use Rattle.ba_refute.proofs.WithinLemmas.{tables_agree}
use Rattle.ba_refute.proofs.conform.conforms.Goals as goal

pub returns : goal.returns
returns c =
    tables_agree c.args.schema.now c.args.rows.now c.rules_hold.result (c.in_ok-tables.ensures.0 (told c.if-not-tables.false))
    (subst (λ rules. IfOk c.rules_hold.result (λ found. IsTrue found ↔ All (RuleHolds c.args.rows.now) rules)) c.as_slice.ensures c.rules_hold.ensures)
