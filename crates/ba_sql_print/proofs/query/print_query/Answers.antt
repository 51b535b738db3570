use Rattle.std.proofs.Common.{◌∙◌, ap, arith, codes, length, string_bytes}
use Rattle.std.proofs.lemmas.Result.{IfOk-weaker}
use Rattle.ba_sql_print.specs.Printed.{part_text, query_text}
use Rattle.ba_sql_print.proofs.ListLemmas.{all_texts}
use Rattle.ba_sql_print.proofs.query.print_query.Goals as goal

pub returns : goal.returns
unfolding query_text
returns c = record {
  text = IfOk-weaker c.join.result _ _
      (λ s e. e ∙ all_texts string_bytes (part_text c.args.schema.now c.args.params.now) (codes " UNION ") c.deref.result.now c.loop-x.texts.items
      c.args.query.now.parts c.loop-x.x-index
      c.deref.ensures.value c.loop-x.invariant (omega (arith, c.loop-x-test.false, ap length c.as_slice-x-items.ensures)))
      c.join.ensures.ok;
}
