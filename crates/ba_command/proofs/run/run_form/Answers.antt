use Rattle.std.proofs.Common.{◌∙◌, ap₂}
use Rattle.std.proofs.lemmas.Result.{IfOk-weaker}
use Rattle.clap.specs.Simple.{with_rule}
use Rattle.ba_command.proofs.run.run_form.Goals as goal

pub returns : goal.returns
returns c =
    let load = c.in_ok-arg.ensures.shape c.option.ensures.local ∙ ap₂ with_rule c.in_ok-served_form.ensures c.option.ensures.rule in
    IfOk-weaker c.arg-2.result _ _ (λ form h. h.shape c.flag.ensures.local ∙ ap₂ with_rule load c.flag.ensures.rule) c.arg-2.ensures
