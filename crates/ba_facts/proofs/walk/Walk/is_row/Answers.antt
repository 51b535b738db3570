use Rattle.std.proofs.Common.{◌<◌, arith, length}
use Rattle.ba_facts.proofs.PlaceLemmas.{pair_fails, pair_more}
use Rattle.ba_facts.proofs.walk.Walk.is_row.Goals as goal

pub returns-then-not-has_same : goal.returns-then-not-has_same
returns-then-not-has_same c = (
  λ e. cc,
  λ h. absurd (pair_fails _ _ _ _ _ c.loop-i.i _ _ c.loop-i-test.true
      (let below : c.loop-i.i < length c.args.row.now = omega arith in below) c.index-head-i.is c.index-row-i.is
      (λ same. let t = c.has_same.ensures.1 same in cc) h),
)

pub loop-i-preserved : goal.loop-i-preserved
loop-i-preserved c =
    pair_more _ _ _ _ _ c.loop-i.i _ _ c.loop-i-test.true
    (let below : c.loop-i.i < length c.args.row.now = omega arith in below) c.index-head-i.is c.index-row-i.is
    (c.has_same.ensures.0 c.if-not-has_same.false) c.loop-i.invariant
