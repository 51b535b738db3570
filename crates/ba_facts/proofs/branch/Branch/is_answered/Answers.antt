use Rattle.std.proofs.Common.{refl}
use Rattle.ba_facts.proofs.RepeatLemmas.{answered_so, answers_compose, not_lost, not_nowhere}
use Rattle.ba_facts.specs.Matches.{row_of}
use Rattle.ba_facts.specs.declared.walk.Walk.{Walk}
use Rattle.ba_facts.specs.declared.walk.Wanted.TheVariants.{Shown}
use Rattle.ba_facts.proofs.branch.Branch.is_answered.Goals as goal

pub returns-then-is_lost : goal.returns-then-is_lost
returns-then-is_lost c =
    let walk : Walk = record { branch = c.args.self; side = c.args.side; part = c.args.part; wanted = Shown } in
    let row = row_of c.args.self.now c.args.facts.now c.args.operands.now in
    (λ e. cc, λ h. absurd (not_lost walk row refl (c.is_lost.ensures c.if-is_lost.true) h))

pub visit-requires-clause-composes : goal.visit-requires-clause-composes
visit-requires-clause-composes c =
    let walk : Walk = record { branch = c.args.self; side = c.args.side; part = c.args.part; wanted = Shown } in
    answers_compose walk (row_of c.args.self.now c.args.facts.now c.args.operands.now)

pub returns-in-Ok : goal.returns-in-Ok
returns-in-Ok c =
    let walk : Walk = record { branch = c.args.self; side = c.args.side; part = c.args.part; wanted = Shown } in
    let row = row_of c.args.self.now c.args.facts.now c.args.operands.now in
    (λ e. cc, λ h. absurd (not_nowhere walk row refl c.in-Ok.ensures.visited h))

pub returns-in-Err : goal.returns-in-Err
returns-in-Err c =
    let walk : Walk = record { branch = c.args.self; side = c.args.side; part = c.args.part; wanted = Shown } in
    let row = row_of c.args.self.now c.args.facts.now c.args.operands.now in
    (λ e. answered_so walk row refl c.in-Err.ensures.stopped, λ h. refl)
