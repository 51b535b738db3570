use Rattle.std.proofs.Common.{refl}
use Rattle.ba_facts.specs.declared.walk.Walk.{Walk}
use Rattle.ba_facts.specs.declared.walk.Wanted.TheVariants.{Live}
use Rattle.ba_instant.proofs.SpreadWalks.{spread_all, spread_bleak, spread_composes, spread_lost}
use Rattle.ba_instant.proofs.spread.Spread.offer.Goals as goal

pub returns-then-is_lost : goal.returns-then-is_lost
returns-then-is_lost c =
    let walk : Walk = record { branch = c.args.self.now.scan.now.branch; side = c.args.self.now.side; part = c.args.self.now.part; wanted = Live } in
    spread_lost c.args.self.now walk (record { branch_is = refl; side_is = refl; part_is = refl; wanted_is = refl }) c.args.best.now (c.is_lost.ensures c.if-is_lost.true)

pub returns-then-branch : goal.returns-then-branch
returns-then-branch c =
    spread_bleak c.args.self.now c.args.best.now (λ facts completes head. c.in_ok-is_bleak.ensures c.if-branch.true facts (record { completes = completes; head = head }))

pub visit-requires-clause-composes : goal.visit-requires-clause-composes
visit-requires-clause-composes c = spread_composes c.args.self.now

pub returns : goal.returns
returns c = spread_all c.args.self.now c.args.best.now c.visit.new.state c.in_ok-visit.ensures.visited
