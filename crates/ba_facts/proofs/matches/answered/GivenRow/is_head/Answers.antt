use Rattle.std.proofs.Common.{◌<◌, ap, arith, get_or, length}
use Rattle.ba_facts.proofs.PlaceLemmas.{lengths_differ, zip_fails, zip_more}
use Rattle.ba_facts.proofs.matches.answered.GivenRow.is_head.Goals as goal

pub returns-then-head-self : goal.returns-then-head-self
returns-then-head-self c = (λ e. cc, λ h. absurd (lengths_differ _ _ _ _ _ c.if-head-self.true h))

pub returns-then-not-is_same : goal.returns-then-not-is_same
returns-then-not-is_same c = (
  λ e. cc,
  λ h. absurd (zip_fails _ _ _ _ _ c.loop-i.i _ _ c.loop-i-test.true
      (let below : c.loop-i.i < length c.args.self.now.operands.now = omega arith in below) c.index-head-i.is
      (ap (get_or c.args.self.now.operands.now c.loop-i.i) c.index-self-i.is)
      (λ same. let t = c.is_same.ensures.1 same in cc) h),
)

pub loop-i-preserved : goal.loop-i-preserved
loop-i-preserved c =
    zip_more _ _ _ _ _ c.loop-i.i _ _ c.loop-i-test.true
    (let below : c.loop-i.i < length c.args.self.now.operands.now = omega arith in below) c.index-head-i.is
    (ap (get_or c.args.self.now.operands.now c.loop-i.i) c.index-self-i.is)
    (c.is_same.ensures.0 c.if-not-is_same.false) c.loop-i.invariant
