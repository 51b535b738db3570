use Rattle.std.proofs.Common.{◌∙◌, ap₂}
use Rattle.std.proofs.lemmas.Result.{IfOk-weaker}
use Rattle.clap.specs.Simple.{with_rule}
use Rattle.ba_command.proofs.served.served_form.Goals as goal

pub returns : goal.returns
returns c =
    let workers = c.in_ok-arg.ensures.shape c.number.ensures.local ∙ ap₂ with_rule c.in_ok-given_form.ensures c.number.ensures.rule in
    let budget = c.in_ok-arg-2.ensures.shape c.number-2.ensures.local ∙ ap₂ with_rule workers c.number-2.ensures.rule in
    IfOk-weaker c.arg-3.result _ _ (λ form h. h.shape c.number-3.ensures.local ∙ ap₂ with_rule budget c.number-3.ensures.rule) c.arg-3.ensures
