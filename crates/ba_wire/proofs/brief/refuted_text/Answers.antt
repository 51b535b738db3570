use Rattle.std.proofs.lemmas.Result.{IfOk-weaker}
use Rattle.ba_wire.specs.Printed.{block, json_of}
use Rattle.ba_wire.specs.declared.line.Block.TheVariants.{Refuted}
use Rattle.ba_wire.proofs.AnswerLemmas.{all_written, line_printed, line_reads}
use Rattle.ba_wire.proofs.BriefLemmas.{refuted_shallow}
use Rattle.ba_wire.proofs.brief.refuted_text.Goals as goal

pub returns-clause-text : goal.returns-clause-text
returns-clause-text c =
    let d = json_of (block Refuted c.args.line c.args.request.now c.args.version) in
    let all = all_written d c.in_ok-push_refuted.ensures c.new-out.ensures.tokens in
    IfOk-weaker c.line_of.result _ _ (λ s h. line_printed d c.push_refuted.new.out.tokens _ all h) c.line_of.ensures.text

pub returns-clause-reads_back : goal.returns-clause-reads_back
returns-clause-reads_back c =
    let d = json_of (block Refuted c.args.line c.args.request.now c.args.version) in
    let all = all_written d c.in_ok-push_refuted.ensures c.new-out.ensures.tokens in
    IfOk-weaker c.line_of.result _ _ (λ s h. line_reads d c.push_refuted.new.out.tokens _ all h c.line_of.ensures.reads c.in_ok-push_refuted.ensures.reads (refuted_shallow c.args.line c.args.request.now c.args.version)) c.line_of.ensures.text
