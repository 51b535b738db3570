use Rattle.ba_comply.specs.Comply.{AnswerWithin}
use Rattle.ba_refute.proofs.LoopLemmas.{ended, passed, refused}
use Rattle.ba_refute.proofs.WithinLemmas.{as_within}
use Rattle.ba_refute.proofs.within.views_pass.Goals as goal

pub returns-then-not-passes : goal.returns-then-not-passes
returns-then-not-passes c =
    refused (λ view. AnswerWithin view.query c.args.ctx.now c.args.one.now c.args.two.now) c.args.views.now c.loop-view.view-index c.view-item.result c.in_ok-passes.passes c.loop-view-test.true c.view-item.is (as_within c.in_ok-passes.passes c.in_ok-passes.ensures) c.if-not-passes.true

pub loop-view-preserved : goal.loop-view-preserved
loop-view-preserved c =
    passed (λ view. AnswerWithin view.query c.args.ctx.now c.args.one.now c.args.two.now) c.args.views.now c.loop-view.view-index c.view-item.result c.in_ok-passes.passes c.loop-view-test.true c.view-item.is (as_within c.in_ok-passes.passes c.in_ok-passes.ensures) c.if-not-passes.false c.loop-view.invariant

pub returns : goal.returns
returns c = ended (λ view. AnswerWithin view.query c.args.ctx.now c.args.one.now c.args.two.now) c.args.views.now c.loop-view.view-index c.loop-view-test.false c.loop-view.invariant
