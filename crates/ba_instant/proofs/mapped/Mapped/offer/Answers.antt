use Rattle.std.proofs.Common.{refl}
use Rattle.ba_facts.specs.declared.walk.Walk.{Walk}
use Rattle.ba_facts.specs.declared.walk.Wanted.TheVariants.{Shown}
use Rattle.ba_instant.proofs.MappedWalks.{mapped_all, mapped_bleak, mapped_composes, mapped_no_use}
use Rattle.ba_instant.proofs.mapped.Mapped.offer.Goals as goal

pub returns-then-branch : goal.returns-then-branch
returns-then-branch c =
    let walk : Walk = record { branch = c.args.self.now.scan.now.branch; side = c.args.self.now.side; part = c.args.self.now.part; wanted = Shown } in
    mapped_no_use c.args.self.now walk (record { branch_is = refl; side_is = refl; part_is = refl; wanted_is = refl }) c.args.best.now (c.in_ok-is_no_use.ensures c.if-branch.true)

pub returns-then-branch-2 : goal.returns-then-branch-2
returns-then-branch-2 c =
    mapped_bleak c.args.self.now c.args.best.now (λ facts completes. c.in_ok-is_bleak.ensures c.if-branch-2.true facts (record { completes = completes; head = tt }))

pub visit-requires-clause-composes : goal.visit-requires-clause-composes
visit-requires-clause-composes c = mapped_composes c.args.self.now

pub returns-then-places-gt-MAX_PART_TABLES : goal.returns-then-places-gt-MAX_PART_TABLES
returns-then-places-gt-MAX_PART_TABLES c = mapped_all c.args.self.now c.args.best.now c.visit.new.state c.in_ok-visit.ensures.visited

pub visit-requires-2-clause-composes : goal.visit-requires-2-clause-composes
visit-requires-2-clause-composes c = mapped_composes c.args.self.now

pub returns : goal.returns
returns c = mapped_all c.args.self.now c.args.best.now c.visit-2.new.state c.in_ok-visit-2.ensures.visited
