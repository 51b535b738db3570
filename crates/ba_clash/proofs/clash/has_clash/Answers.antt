use Rattle.ba_clash.proofs.StepLemmas.{clashes_met}
use Rattle.ba_clash.proofs.clash.has_clash.Goals as goal

pub returns : goal.returns
returns c =
    clashes_met c.args.schema.now c.args.context.now c.args.old.now c.args.new.now
    c.is_some_met.result c.is_some_met.ensures
