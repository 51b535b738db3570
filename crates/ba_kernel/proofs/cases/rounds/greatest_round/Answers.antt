use Rattle.ba_kernel.proofs.BuildRounds.{round_more}
use Rattle.ba_kernel.proofs.cases.rounds.greatest_round.Goals as goal

pub loop-number-preserved : goal.loop-number-preserved
loop-number-preserved c =
    round_more c.args.branch.now c.args.facts.now c.loop-number.number-index c.loop-number.greatest c.greater-greatest.result c.fact_round.result c.loop-number-test.true
    c.loop-number.invariant c.fact_round.ensures c.greater-greatest.ensures
