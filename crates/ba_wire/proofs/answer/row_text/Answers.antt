use Rattle.ba_wire.specs.Printed.{row_json}
use Rattle.ba_wire.proofs.AnswerLemmas.{all_written, text_printed}
use Rattle.ba_wire.proofs.answer.row_text.Goals as goal

pub returns : goal.returns
returns c =
    let d = row_json c.args.row.now in
    text_printed d c.push_row.new.out.tokens _ (all_written d c.in_ok-push_row.ensures c.new-out.ensures.tokens) c.text_of.ensures.text
