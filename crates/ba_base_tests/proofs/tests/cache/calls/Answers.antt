use Rattle.std.proofs.Common.{◌-◌, ◌*◌, arith}
use Rattle.ba_base_tests.proofs.Callers.{fewer}
use Rattle.ba_base_tests.proofs.tests.cache.calls.Goals as goal

pub three_calls-requires-clause-left : goal.three_calls-requires-clause-left
three_calls-requires-clause-left g c =
    let n = 12 - 3 * c.loop-turn.turn in
    let test = c.loop-turn-test.true in
    fewer n 3 c.loop-turn.pass (omega arith) (c.loop-turn.invariant.left n (omega arith))
