use Rattle.std.proofs.Common.{◌∙◌, All, ap, rules, subst}
use Rattle.std.proofs.lemmas.List.{take_all}
use Rattle.ba_store.proofs.WriteLemmas.{have_more, line_more}
use Rattle.ba_store.specs.ReadBack.{HasText}
use Rattle.ba_store.specs.Written.{json_text}
use Rattle.ba_store.proofs.write.lines_of.Goals as goal

pub loop-template-preserved : goal.loop-template-preserved
loop-template-preserved c = (
  line_more c.args.templates.now c.loop-template.template-index c.template-item.result c.loop-template-test.true c.template-item.is _ _ _ _ c.loop-template.invariant.0
      (c.as_bytes.ensures.value ∙ c.in_ok-text.ensures.text ∙ ap json_text c.deref.ensures) c.in_ok-extend_from_slice.ensures.items c.in_ok-push.ensures.items,
  have_more c.args.templates.now c.loop-template.template-index c.template-item.result c.loop-template-test.true c.template-item.is c.loop-template.invariant.1
      (subst HasText c.deref.ensures c.in_ok-text.ensures.has),
)

pub returns-clause-have : goal.returns-clause-have
returns-clause-have c = subst (All HasText) (take_all c.loop-template.template-index c.args.templates.now (search rules)) c.loop-template.invariant.1
