use Rattle.ba_lex.proofs.NumberLemmas.{over_add, over_mul}
use Rattle.ba_lex.proofs.decode.value.Goals as goal

pub returns-in_default : goal.returns-in_default
returns-in_default c = over_mul c.loop-digit.value c.args.digits.now c.loop-digit.digit-index c.loop-digit-test.true c.in_default.ensures c.loop-digit.invariant

pub returns-in_default-checked_add : goal.returns-in_default-checked_add
returns-in_default-checked_add c =
    over_add c.loop-digit.value c.args.digits.now c.loop-digit.digit-index c.in-Some.shifted c.saturating_sub.result c.loop-digit-test.true c.in-Some.ensures.1 c.saturating_sub.ensures c.in_default-checked_add.ensures c.loop-digit.invariant
