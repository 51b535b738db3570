use Rattle.std.proofs.Common.{refl}
use Rattle.ba_facts.proofs.WalkLemmas.{needless}
use Rattle.ba_facts.specs.declared.term.Side.TheVariants.{Two}
use Rattle.ba_facts.specs.declared.walk.Walk.{Walk}
use Rattle.ba_facts.specs.declared.walk.Wanted.TheVariants.{Shown}
use Rattle.ba_instant.proofs.ReachLemmas.{none_every, reach_bare, reach_bleak, reach_composes, reach_lost_at_once}
use Rattle.ba_instant.proofs.reach.Reach.is_reached.Goals as goal

pub returns-then-not-have_facts : goal.returns-then-not-have_facts
returns-then-not-have_facts c = λ not facts h.
    reach_bare c.args.self.now.branch.now c.args.self.now.part.now c.args.self.now.row.now c.as_slice.result.now c.as_slice.ensures
    (λ all. let yes = c.have_facts.ensures.1 all in cc) facts h

pub returns-then-is_lost : goal.returns-then-is_lost
returns-then-is_lost c = λ not.
    let walk : Walk = record { branch = c.args.self.now.branch; side = Two; part = c.args.self.now.part; wanted = Shown } in
    reach_lost_at_once c.args.self.now walk (record { branch_is = refl; part_is = refl; wanted_is = refl }) (c.is_lost.ensures c.if-is_lost.true)

pub returns-then-is_worthwhile : goal.returns-then-is_worthwhile
returns-then-is_worthwhile c = λ not.
    reach_bleak c.args.self.now
    (λ facts completes head. c.in_ok-bleak.ensures (needless c.in_ok-bleak.bleak not) facts (record { completes = completes; head = head }))

pub visit-requires-clause-composes : goal.visit-requires-clause-composes
visit-requires-clause-composes c = reach_composes c.args.self.now

pub returns-in-Ok : goal.returns-in-Ok
returns-in-Ok c = λ not. none_every c.args.self.now c.args.self.now.part.now.from _ c.in-Ok.ensures.visited
