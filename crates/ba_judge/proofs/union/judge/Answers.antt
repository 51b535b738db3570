use Rattle.ba_judge.proofs.WeakerLemmas.{after_weaker}
use Rattle.ba_judge.specs.Judging.{effort_in, seen}
use Rattle.ba_judge.specs.Shelves.Learns.{both}
use Rattle.ba_judge.proofs.union.judge.Goals as goal

pub returns-clause-prefers : goal.returns-clause-prefers
returns-clause-prefers g c =
    let effort = effort_in (g.S.Settle.orders c.args.settle.now) c.args.budget in
    let tells = c.in_ok-told.ensures in
    after_weaker (seen c.args.asked.now) effort c.args.shelves.now c.judge_weaker.new.shelves c.in_ok-weaker.weaker c.in_default.is c.in_ok-weaker.ensures.gives c.in_ok-told.told tells.first tells.parts
    c.into_judgement.result c.into_judgement.ensures

pub returns-in_err-told-clause-learns : goal.returns-in_err-told-clause-learns
returns-in_err-told-clause-learns g c = both c.judge_weaker.ensures.learns c.judge_once.ensures.learns

pub returns-clause-learns : goal.returns-clause-learns
returns-clause-learns g c = both c.judge_weaker.ensures.learns c.judge_once.ensures.learns
