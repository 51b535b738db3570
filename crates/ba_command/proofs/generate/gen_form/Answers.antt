use Rattle.std.proofs.Common.{◌∙◌, ap₂}
use Rattle.std.proofs.lemmas.Result.{IfOk-weaker}
use Rattle.clap.specs.Simple.{with_rule}
use Rattle.ba_command.proofs.generate.gen_form.Goals as goal

pub returns : goal.returns
returns c =
    let seed = c.in_ok-arg.ensures.shape c.needed_number.ensures.local ∙ ap₂ with_rule c.bare.ensures c.needed_number.ensures.rule in
    let requests = c.in_ok-arg-2.ensures.shape c.needed_number-2.ensures.local ∙ ap₂ with_rule seed c.needed_number-2.ensures.rule in
    let workers = c.in_ok-arg-3.ensures.shape c.number.ensures.local ∙ ap₂ with_rule requests c.number.ensures.rule in
    IfOk-weaker c.arg-4.result _ _ (λ form h. h.shape c.flag.ensures.local ∙ ap₂ with_rule workers c.flag.ensures.rule) c.arg-4.ensures
