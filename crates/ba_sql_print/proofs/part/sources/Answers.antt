use Rattle.std.proofs.Common.{◌∙◌, ap, arith, codes, map, string_bytes}
use Rattle.std.proofs.lemmas.Result.{IfOk-weaker}
use Rattle.ba_sql_print.specs.Printed.{from_text}
use Rattle.ba_sql_print.proofs.ListLemmas.{all_sources, one_more_source}
use Rattle.ba_sql_print.proofs.part.sources.Goals as goal

pub loop-place-preserved : goal.loop-place-preserved
loop-place-preserved c =
    ap (map string_bytes) c.in_ok-push.ensures.items
    ∙ one_more_source string_bytes c.args.schema.now c.loop-place.texts.items c.in_ok-text.text c.args.from.now c.loop-place.place _
    c.loop-place.invariant (omega (arith, c.loop-place-test.true)) c.in_ok-text.ensures

pub returns : goal.returns
unfolding from_text
returns c =
    IfOk-weaker c.join.result _ _
    (λ s e. e ∙ all_sources string_bytes c.args.schema.now (codes ", ") c.deref.result.now c.loop-place.texts.items c.args.from.now c.loop-place.place
    c.deref.ensures.value c.loop-place.invariant (omega (arith, c.loop-place-test.false)))
    c.join.ensures.ok
