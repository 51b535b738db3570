use Rattle.std.proofs.Common.{◌∙◌, ap₂, subst}
use Rattle.std.proofs.lemmas.Result.{IfOk-weaker}
use Rattle.std.proofs.lemmas.Str.{IsUtf8-string_bytes}
use Rattle.std.specs.Prelude.{string_bytes}
use Rattle.serde_json.specs.View.{view}
use Rattle.ba_proof.proofs.ReadBackLemmas.{ok_both}
use Rattle.ba_kernel.specs.declared.problem.Problem.{Problem}
use Rattle.ba_template.specs.Templates.{IsTemplate}
use Rattle.ba_store.proofs.WriteLemmas.{has_text, text_is}
use Rattle.ba_store.specs.ReadBack.{TemplateHasBits}
use Rattle.ba_store.specs.Written.{template_json}
use Rattle.ba_store.proofs.write.template_text.Goals as goal

pub returns-clause-text : goal.returns-clause-text
returns-clause-text c =
    let it = c.args.template.now in
    let made = c.in_ok-json.ensures.json ∙ ap₂ template_json c.problem.ensures.is (c.as_slice.ensures ∙ c.steps-steps.ensures.is) in
    IfOk-weaker c.to_string.result _ _ (λ text writes. text_is it (view c.in_ok-json.json) (string_bytes text) made writes) c.to_string.ensures.text

pub returns-clause-has : goal.returns-clause-has
returns-clause-has c =
    let it = c.args.template.now in
    let made = c.in_ok-json.ensures.json ∙ ap₂ template_json c.problem.ensures.is (c.as_slice.ensures ∙ c.steps-steps.ensures.is) in
    let template = subst (IsTemplate it.problem) c.steps-steps.ensures.is c.steps-steps.ensures.template in
    let bits =
    subst (λ (p : Problem). TemplateHasBits p it.steps) c.problem.ensures.is
    (subst (TemplateHasBits c.problem.result.now) (c.as_slice.ensures ∙ c.steps-steps.ensures.is) c.in_ok-json.ensures.bits) in
    ok_both c.to_string.result _ _ _
    (λ text writes reading. has_text it (view c.in_ok-json.json) (string_bytes text) made template bits (IsUtf8-string_bytes text) writes reading) c.to_string.ensures.text c.to_string.ensures.reads_back
