use Rattle.std.proofs.Common.{◌∙◌, arith, codes, string_bytes}
use Rattle.std.proofs.lemmas.Result.{IfOk-weaker}
use Rattle.ba_sql_print.specs.Printed.{heads_text, operand_text}
use Rattle.ba_sql_print.proofs.ListLemmas.{all_texts}
use Rattle.ba_sql_print.proofs.part.heads.Goals as goal

pub returns : goal.returns
unfolding heads_text
returns c =
    IfOk-weaker c.join.result _ _
    (λ s e. e ∙ all_texts string_bytes (operand_text c.args.schema.now c.args.params.now c.args.from.now) (codes ", ") c.deref.result.now c.loop-x.texts.items
    c.args.head.now c.loop-x.x-index
    c.deref.ensures.value c.loop-x.invariant (omega (arith, c.loop-x-test.false)))
    c.join.ensures.ok
