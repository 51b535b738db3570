use Rattle.std.proofs.Common.{◌≤◌, arith, length}
use Rattle.ba_core.proofs.AskLemmas.{not_there}
use Rattle.ba_core.proofs.ground.serves.Goals as goal

pub returns-in-None-clause-exact : goal.returns-in-None-clause-exact
returns-in-None-clause-exact c =
    let past : length c.args.templates.now ≤ c.args.n = omega (arith, c.in-None.ensures.lookup) in
    not_there c.args.policy.now c.args.templates.now c.args.asker.now c.args.query.now c.args.n c.args.found.now past
