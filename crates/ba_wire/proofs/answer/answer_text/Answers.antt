use Rattle.std.proofs.lemmas.Result.{IfOk-weaker}
use Rattle.ba_wire.specs.Printed.{answer_json}
use Rattle.ba_wire.proofs.AnswerLemmas.{all_written, answer_shallow, line_printed, line_reads}
use Rattle.ba_wire.proofs.answer.answer_text.Goals as goal

pub returns-clause-text : goal.returns-clause-text
returns-clause-text c =
    let d = answer_json c.args.by.now c.args.line c.args.request.now c.args.rows.now c.args.version in
    let all = all_written d c.in_ok-push_answer.ensures c.new-out.ensures.tokens in
    IfOk-weaker c.line_of.result _ _ (λ s h. line_printed d c.push_answer.new.out.tokens _ all h) c.line_of.ensures.text

pub returns-clause-reads_back : goal.returns-clause-reads_back
returns-clause-reads_back c =
    let d = answer_json c.args.by.now c.args.line c.args.request.now c.args.rows.now c.args.version in
    let all = all_written d c.in_ok-push_answer.ensures c.new-out.ensures.tokens in
    IfOk-weaker c.line_of.result _ _ (λ s h. line_reads d c.push_answer.new.out.tokens _ all h c.line_of.ensures.reads c.in_ok-push_answer.ensures.reads (answer_shallow c.args.by.now c.args.line c.args.request.now c.args.rows.now c.args.version)) c.line_of.ensures.text
