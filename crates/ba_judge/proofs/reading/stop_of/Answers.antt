use Rattle.ba_judge.proofs.ReadLemmas.{allowed_more, blocked_here, judged_since}
use Rattle.ba_judge.specs.Judging.{effort_in}
use Rattle.ba_judge.specs.Reading.{asked_by, reader}
use Rattle.ba_judge.specs.Shelves.Learns.{both}
use Rattle.ba_judge.specs.declared.verdict.Judgement.TheVariants as judged
use Rattle.ba_judge.proofs.reading.stop_of.Goals as goal

pub returns-in-Blocked-clause-stops : goal.returns-in-Blocked-clause-stops
returns-in-Blocked-clause-stops g c =
    let it = reader c.args.reading.now in
    let effort = effort_in (g.S.Settle.orders c.args.settle.now) c.args.budget in
    let query = c.query-item.result in
    let old = c.args.shelves.now in
    let tells = c.in_ok-judgement.ensures in
    blocked_here it c.args.queries.now c.loop-query.query-index query c.loop-query-test.true c.query-item.is effort old c.loop-query.by c.in-Blocked.reason c.loop-query.invariant.allowed
    (judged_since (asked_by it query) effort old c.loop-query.shelves c.in_ok-judgement.judgement (judged.Blocked c.in-Blocked.reason) c.in-Blocked.is c.loop-query.invariant.learns tells.judges tells.first tells.parts)

pub loop-query-preserved : goal.loop-query-preserved
loop-query-preserved g c =
    let it = reader c.args.reading.now in
    let effort = effort_in (g.S.Settle.orders c.args.settle.now) c.args.budget in
    let query = c.query-item.result in
    let old = c.args.shelves.now in
    let tells = c.in_ok-judgement.ensures in
    record {
      allowed =
          allowed_more it c.args.queries.now c.loop-query.query-index query c.loop-query-test.true c.query-item.is effort old c.loop-query.by c.push.new.self c.in-Allowed.allowed c.loop-query.invariant.allowed
          (judged_since (asked_by it query) effort old c.loop-query.shelves c.in_ok-judgement.judgement (judged.Allowed c.in-Allowed.allowed) c.in-Allowed.is c.loop-query.invariant.learns tells.judges tells.first tells.parts)
          c.in_ok-push-in-Allowed.ensures.ok;
      learns = both c.loop-query.invariant.learns c.judge_told.ensures.learns;
    }

pub returns-in_err-judgement-clause-learns : goal.returns-in_err-judgement-clause-learns
returns-in_err-judgement-clause-learns g c = both c.loop-query.invariant.learns c.judge_told.ensures.learns

pub returns-in_err-push-in-Allowed-clause-learns : goal.returns-in_err-push-in-Allowed-clause-learns
returns-in_err-push-in-Allowed-clause-learns g c = both c.loop-query.invariant.learns c.judge_told.ensures.learns

pub returns-in-Blocked-clause-learns : goal.returns-in-Blocked-clause-learns
returns-in-Blocked-clause-learns g c = both c.loop-query.invariant.learns c.judge_told.ensures.learns

pub returns-clause-learns : goal.returns-clause-learns
returns-clause-learns g c = c.loop-query.invariant.learns
