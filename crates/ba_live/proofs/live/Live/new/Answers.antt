use Rattle.ba_judge.specs.Shelves.AreTaken.{nothing}
use Rattle.ba_live.proofs.FreshLemmas.{taken_more}
use Rattle.ba_live.proofs.live.Live.new.Goals as goal

pub loop-template-init : goal.loop-template-init
loop-template-init c = nothing c.in_ok-shelves.ensures

pub loop-template-preserved : goal.loop-template-preserved
loop-template-preserved c =
    taken_more c.as_slice-template-items.result.now c.loop-template.template-index c.template-item.result c.in_ok-template.template c.loop-template.shelves c.admit.new.self c.loop-template-test.true
    c.template-item.is c.in_ok-template.ensures c.loop-template.invariant c.in_ok-admit.ensures.ok
