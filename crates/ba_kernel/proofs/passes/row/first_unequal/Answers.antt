use Rattle.ba_kernel.proofs.PassLemmas.{number_first, number_more}
use Rattle.ba_facts.proofs.PlaceLemmas.{all_places}
use Rattle.ba_kernel.specs.Steps.{AreEqualAt}
use Rattle.ba_kernel.proofs.passes.row.first_unequal.Goals as goal

pub returns-then-not-are_equal_at : goal.returns-then-not-are_equal_at
returns-then-not-are_equal_at c =
    number_first (AreEqualAt c.args.branch.now c.args.left.now c.args.right.now) c.args.columns.now c.loop-number.number c.loop-number-test.true
    (λ h. let t = c.are_equal_at.ensures.1 h in cc) c.loop-number.invariant

pub loop-number-preserved : goal.loop-number-preserved
loop-number-preserved c =
    number_more (AreEqualAt c.args.branch.now c.args.left.now c.args.right.now) c.args.columns.now c.loop-number.number c.loop-number-test.true
    (c.are_equal_at.ensures.0 c.if-not-are_equal_at.false) c.loop-number.invariant

pub returns : goal.returns
returns c =
    all_places (AreEqualAt c.args.branch.now c.args.left.now c.args.right.now) c.args.columns.now c.loop-number.number
    c.loop-number-test.false c.loop-number.invariant
