use Rattle.std.proofs.Common.{◌∙◌, ap₂}
use Rattle.std.proofs.lemmas.Result.{IfOk-weaker}
use Rattle.clap.specs.Simple.{with_rule}
use Rattle.ba_command.proofs.audit.audit_form.Goals as goal

pub returns : goal.returns
returns c = IfOk-weaker c.arg.result _ _ (λ form h. h.shape c.needed.ensures.local ∙ ap₂ with_rule c.in_ok-given_form.ensures c.needed.ensures.rule) c.arg.ensures
