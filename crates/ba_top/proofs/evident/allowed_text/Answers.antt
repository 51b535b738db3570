use Rattle.std.proofs.Common.{map}
use Rattle.std.proofs.lemmas.Result.{IfOk-weaker}
use Rattle.ba_top.specs.Evidence.{evidence_of, trace_at}
use Rattle.ba_top.proofs.ProofsLemmas.{if_ok_all}
use Rattle.ba_top.proofs.evident.allowed_text.Goals as goal

pub returns-clause-text : goal.returns-clause-text
returns-clause-text c =
    let grounds = map (evidence_of (trace_at c.args.requests.now.traces.items c.args.request)) c.args.by.now in
    IfOk-weaker c.read_line.result _ _ (λ s h. h c.args.policy.now.params grounds c.in_ok-rests.ensures.told) c.read_line.ensures.text

pub returns-clause-closes : goal.returns-clause-closes
returns-clause-closes c = if_ok_all _ c.read_line.result c.in_ok-rests.ensures.closes

pub returns-clause-reads_back : goal.returns-clause-reads_back
returns-clause-reads_back c =
    let grounds = map (evidence_of (trace_at c.args.requests.now.traces.items c.args.request)) c.args.by.now in
    IfOk-weaker c.read_line.result _ _ (λ s h. h c.args.policy.now.params grounds c.in_ok-rests.ensures.told) c.read_line.ensures.reads_back

pub returns-clause-bits : goal.returns-clause-bits
returns-clause-bits c = if_ok_all _ c.read_line.result c.in_ok-rests.ensures.bits
