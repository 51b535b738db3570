use Rattle.ba_instant.proofs.ToldLemmas.{added_told_by}
use Rattle.ba_instant.proofs.memory.add_told.Goals as goal

pub returns : goal.returns
returns c =
    added_told_by c.args.then.now c.args.here c.args.told.now c.add.new.self (λ h. let t = c.is_new.ensures.1 h in cc) c.requires c.add.result c.add.ensures
