use Rattle.std.proofs.Common.{◌↔◌, IsTrue, subst, sym}
use Rattle.std.specs.Result.{IfOk}
use Rattle.ba_audit.specs.Tests.{IsRefuted}
use Rattle.ba_audit.proofs.answers.is_refuted.Goals as goal

pub returns-in-Refuted : goal.returns-in-Refuted
returns-in-Refuted c =
    subst (λ b. IfOk c.is_counterexample.result (λ it. IsTrue it ↔ IsRefuted c.args.policy.now c.args.asker.now c.args.query.now b)) (sym c.in-Refuted.is) c.is_counterexample.ensures
