use Rattle.std.proofs.Common.{◌∙◌, sym, ap, refl, length, arith, is_lt}
use Rattle.std.proofs.lemmas.Option.{slice_get_read}
use Rattle.ba_tables.proofs.MissingLemmas.{first_end, first_here, first_next, none_before}
use Rattle.ba_tables.proofs.rules.first_from.Goals as goal

pub loop-at-init : goal.loop-at-init
loop-at-init c = none_before c.args.rows.now c.args.from c.args.row.now

pub returns-then-not-is_lt : goal.returns-then-not-is_lt
returns-then-not-is_lt c =
    let here = slice_get_read c.args.rows.now (length c.args.rows.now) c.loop-at.at c.index-rows-at.result refl c.loop-at-test.true c.index-rows-at.is in
    first_here c.args.rows.now c.args.from c.loop-at.at c.args.row.now c.index-rows-at.result c.loop-at.invariant here (ap is_lt (sym c.cmp.ensures) ∙ (sym c.is_lt.ensures ∙ c.if-not-is_lt.true))

pub loop-at-preserved : goal.loop-at-preserved
loop-at-preserved c =
    let here = slice_get_read c.args.rows.now (length c.args.rows.now) c.loop-at.at c.index-rows-at.result refl c.loop-at-test.true c.index-rows-at.is in
    first_next c.args.rows.now c.args.from c.loop-at.at c.args.row.now c.index-rows-at.result c.loop-at.invariant here (ap is_lt (sym c.cmp.ensures) ∙ (sym c.is_lt.ensures ∙ c.if-not-is_lt.false))

pub returns : goal.returns
returns c = first_end c.args.rows.now c.args.from c.loop-at.at c.args.row.now c.loop-at.invariant (omega arith)
