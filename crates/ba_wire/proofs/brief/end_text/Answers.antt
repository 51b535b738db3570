use Rattle.std.proofs.lemmas.Result.{IfOk-weaker}
use Rattle.ba_wire.specs.Printed.{end, json_of}
use Rattle.ba_wire.proofs.AnswerLemmas.{all_written, line_printed, line_reads}
use Rattle.ba_wire.proofs.BriefLemmas.{end_shallow}
use Rattle.ba_wire.proofs.brief.end_text.Goals as goal

pub returns-clause-text : goal.returns-clause-text
returns-clause-text c =
    let d = json_of (end c.args.request.now c.args.line) in
    let all = all_written d c.in_ok-push_end.ensures c.new-out.ensures.tokens in
    IfOk-weaker c.line_of.result _ _ (λ s h. line_printed d c.push_end.new.out.tokens _ all h) c.line_of.ensures.text

pub returns-clause-reads_back : goal.returns-clause-reads_back
returns-clause-reads_back c =
    let d = json_of (end c.args.request.now c.args.line) in
    let all = all_written d c.in_ok-push_end.ensures c.new-out.ensures.tokens in
    IfOk-weaker c.line_of.result _ _ (λ s h. line_reads d c.push_end.new.out.tokens _ all h c.line_of.ensures.reads c.in_ok-push_end.ensures.reads (end_shallow c.args.request.now c.args.line)) c.line_of.ensures.text
