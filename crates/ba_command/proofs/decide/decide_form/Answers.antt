use Rattle.std.proofs.Common.{◌∙◌, ap₂}
use Rattle.std.proofs.lemmas.Result.{IfOk-weaker}
use Rattle.clap.specs.Simple.{with_rule}
use Rattle.ba_command.proofs.decide.decide_form.Goals as goal

pub returns : goal.returns
returns c =
    let schema = c.in_ok-arg.ensures.shape c.needed.ensures.local ∙ ap₂ with_rule c.bare.ensures c.needed.ensures.rule in
    let policy = c.in_ok-arg-2.ensures.shape c.needed-2.ensures.local ∙ ap₂ with_rule schema c.needed-2.ensures.rule in
    let load = c.in_ok-arg-3.ensures.shape c.option.ensures.local ∙ ap₂ with_rule policy c.option.ensures.rule in
    let budget = c.in_ok-arg-4.ensures.shape c.number.ensures.local ∙ ap₂ with_rule load c.number.ensures.rule in
    let evidence = c.in_ok-arg-5.ensures.shape c.flag.ensures.local ∙ ap₂ with_rule budget c.flag.ensures.rule in
    let database = c.in_ok-arg-6.ensures.shape c.option-2.ensures.local ∙ ap₂ with_rule evidence c.option-2.ensures.rule in
    IfOk-weaker c.arg-7.result _ _ (λ form h. h.shape c.option-3.ensures.local ∙ ap₂ with_rule database c.option-3.ensures.rule) c.arg-7.ensures
