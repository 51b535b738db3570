use Rattle.ba_kernel.proofs.PassLemmas.{number_first, number_more}
use Rattle.ba_facts.proofs.PlaceLemmas.{all_places}
use Rattle.ba_kernel.specs.Steps.{IsNotNullAt}
use Rattle.ba_kernel.proofs.passes.row.first_nullable.Goals as goal

pub returns-then-not-is_not_null_at : goal.returns-then-not-is_not_null_at
returns-then-not-is_not_null_at c =
    number_first (IsNotNullAt c.args.branch.now c.args.terms.now) c.args.columns.now c.loop-number.number c.loop-number-test.true
    (λ h. let t = c.is_not_null_at.ensures.1 h in cc) c.loop-number.invariant

pub loop-number-preserved : goal.loop-number-preserved
loop-number-preserved c =
    number_more (IsNotNullAt c.args.branch.now c.args.terms.now) c.args.columns.now c.loop-number.number c.loop-number-test.true
    (c.is_not_null_at.ensures.0 c.if-not-is_not_null_at.false) c.loop-number.invariant

pub returns : goal.returns
returns c =
    all_places (IsNotNullAt c.args.branch.now c.args.terms.now) c.args.columns.now c.loop-number.number
    c.loop-number-test.false c.loop-number.invariant
