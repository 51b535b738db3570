use Rattle.ba_facts.proofs.RepeatLemmas.{answered_here, gives_here, met_here}
use Rattle.ba_facts.specs.Matches.{row_of}
use Rattle.ba_facts.proofs.matches.answered.GivenRow.is_given.Goals as goal

pub returns-then-is_head : goal.returns-then-is_head
returns-then-is_head c =
    let walk = c.args.walk.now in
    let row = row_of walk.branch.now c.args.self.now.facts.now c.args.self.now.operands.now in
    let head = c.is_head.ensures.0 c.if-is_head.true in (
      λ e. answered_here walk row c.args.chosen.now (rw c.as_slice.ensures at head) (c.is_met.ensures.0 e),
      λ h. c.is_met.ensures.1 (met_here walk row c.args.chosen.now h),
    )

pub returns-else-is_head : goal.returns-else-is_head
returns-else-is_head c =
    let walk = c.args.walk.now in
    let row = row_of walk.branch.now c.args.self.now.facts.now c.args.self.now.operands.now in (
      λ e. cc,
      λ h. let head = gives_here walk row c.args.chosen.now h in c.is_head.ensures.1 (rw (← c.as_slice.ensures) at head),
    )
