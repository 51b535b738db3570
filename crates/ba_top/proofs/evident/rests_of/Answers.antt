use Rattle.std.proofs.Common.{arith, sym}
use Rattle.ba_top.specs.Evidence.{trace_at}
use Rattle.ba_top.proofs.RestLemmas.{bits_all, close_all, rests_more, rests_none, told_all}
use Rattle.ba_top.proofs.evident.rests_of.Goals as goal

pub loop-place-init : goal.loop-place-init
loop-place-init c =
    let trace = trace_at c.args.requests.now.traces.items c.args.request in
    rests_none c.args.policy.now c.args.requests.now.contexts trace c.args.request c.args.queries.now c.args.by.now c.new-rests.result (c.new-rests.ensures c.args.policy.now.params)

pub loop-place-preserved : goal.loop-place-preserved
loop-place-preserved c =
    let trace = trace_at c.args.requests.now.traces.items c.args.request in
    let more = c.in_ok-add_ground.ensures in
    rests_more c.args.policy.now c.args.requests.now.contexts trace c.args.request c.args.queries.now c.args.by.now c.loop-place.rests c.add_ground.new.rests c.loop-place.place c.in-Some.query.now c.get-it.result.now
    (sym c.in-Some.ensures) c.get-it.ensures c.loop-place.invariant more.told more.closes more.bits more.few

pub returns-clause-told : goal.returns-clause-told
returns-clause-told c =
    let trace = trace_at c.args.requests.now.traces.items c.args.request in
    told_all c.args.policy.now c.args.requests.now.contexts trace c.args.request c.args.queries.now c.args.by.now c.loop-place.rests c.loop-place.place (omega arith) c.loop-place.invariant

pub returns-clause-closes : goal.returns-clause-closes
returns-clause-closes c =
    let trace = trace_at c.args.requests.now.traces.items c.args.request in
    close_all c.args.policy.now c.args.requests.now.contexts trace c.args.request c.args.queries.now c.args.by.now c.loop-place.rests c.loop-place.place (omega arith) c.loop-place.invariant

pub returns-clause-bits : goal.returns-clause-bits
returns-clause-bits c =
    let trace = trace_at c.args.requests.now.traces.items c.args.request in
    bits_all c.args.policy.now c.args.requests.now.contexts trace c.args.request c.args.queries.now c.args.by.now c.loop-place.rests c.loop-place.place (omega arith) c.loop-place.invariant
