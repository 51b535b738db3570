use Rattle.std.proofs.Common.{option_copied, refl}
use Rattle.ba_facts.proofs.RoundLemmas.{least_live, least_lost, rounds_compose}
use Rattle.ba_facts.specs.declared.walk.Walk.{Walk}
use Rattle.ba_facts.specs.declared.walk.Wanted.TheVariants.{Live}
use Rattle.ba_facts.proofs.branch.Branch.least_round.Goals as goal

pub returns-then-is_lost : goal.returns-then-is_lost
returns-then-is_lost c =
    let walk : Walk = record { branch = c.args.self; side = c.args.side; part = c.args.part; wanted = Live } in
    least_lost walk (option_copied c.args.row) c.args.atom.now refl (c.is_lost.ensures c.if-is_lost.true)

pub visit-requires-clause-composes : goal.visit-requires-clause-composes
visit-requires-clause-composes c =
    let walk : Walk = record { branch = c.args.self; side = c.args.side; part = c.args.part; wanted = Live } in
    rounds_compose walk (option_copied c.args.row) c.args.atom.now

pub returns : goal.returns
returns c =
    let walk : Walk = record { branch = c.args.self; side = c.args.side; part = c.args.part; wanted = Live } in
    least_live walk (option_copied c.args.row) c.args.atom.now refl _ c.in-Ok.ensures.visited
