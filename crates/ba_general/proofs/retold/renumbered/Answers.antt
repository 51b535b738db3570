use Rattle.std.proofs.Common.{subst, sym}
use Rattle.std.specs.Prelude.{Contains}
use Rattle.ba_kernel.proofs.BuildLemmas.{zip_more}
use Rattle.ba_general.proofs.NamedLemmas.{among}
use Rattle.ba_general.specs.Retold.{IsRenumbered}
use Rattle.ba_general.proofs.retold.renumbered.Goals as goal

pub renumbered_step-requires : goal.renumbered_step-requires
renumbered_step-requires c =
    among c.args.steps.now c.args.numbers.now c.step-item.result c.requires
    (subst (λ xs. Contains xs c.step-item.result) c.as_slice-step-items.ensures (c.loop-step.step-index, c.loop-step-test.true, sym c.step-item.is))

pub loop-step-preserved : goal.loop-step-preserved
loop-step-preserved c =
    zip_more (IsRenumbered c.args.numbers.now) c.as_slice-step-items.result.now c.loop-step.step-index c.step-item.result c.loop-step.all c.push.new.self
    c.in_ok-renumbered_step.field-0 c.loop-step-test.true c.step-item.is c.loop-step.invariant c.in_ok-renumbered_step.ensures c.in_ok-push.ensures.ok
