use Rattle.ba_core.proofs.ReadLemmas.{all_more, all_whole}
use Rattle.ba_core.specs.Steps.{HasTemplate}
use Rattle.ba_core.proofs.ground.have_templates.Goals as goal

pub loop-why-preserved : goal.loop-why-preserved
loop-why-preserved c =
    all_more (HasTemplate c.args.templates.now) c.args.grounds.now c.loop-why.why-index c.why-item.result c.loop-why-test.true c.why-item.is c.loop-why.invariant
    (c.has_template.ensures.0 c.if-not-has_template.false)

pub returns : goal.returns
returns c = all_whole (HasTemplate c.args.templates.now) c.args.grounds.now c.loop-why.why-index c.loop-why-test.false c.loop-why.invariant
