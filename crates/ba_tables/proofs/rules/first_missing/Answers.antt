use Rattle.std.proofs.Common.{◌∙◌, sym, refl, length, arith}
use Rattle.std.proofs.lemmas.Option.{slice_get_read}
use Rattle.ba_tables.proofs.MissingLemmas.{missing_here, none_missing, none_walked, one_walked, told_false, told_true}
use Rattle.ba_tables.proofs.rules.first_missing.Goals as goal

pub loop-i-init : goal.loop-i-init
loop-i-init c = none_walked c.args.left.now c.args.right.now

pub returns-then-not-is_at : goal.returns-then-not-is_at
returns-then-not-is_at c =
    let here = slice_get_read c.args.left.now (length c.args.left.now) c.loop-i.i c.index-left-i.result refl c.loop-i-test.true c.index-left-i.is in
    missing_here c.args.left.now c.args.right.now c.loop-i.i c.loop-i.at c.first_from-at.result c.index-left-i.result c.requires.right c.loop-i.invariant here c.first_from-at.ensures (told_false c.is_at.result _ c.is_at.ensures c.if-not-is_at.true)

pub loop-i-preserved : goal.loop-i-preserved
loop-i-preserved c =
    let here = slice_get_read c.args.left.now (length c.args.left.now) c.loop-i.i c.index-left-i.result refl c.loop-i-test.true c.index-left-i.is in
    one_walked c.args.left.now c.args.right.now c.loop-i.i c.loop-i.at c.first_from-at.result c.index-left-i.result c.requires.left c.loop-i.invariant here c.first_from-at.ensures (told_true c.is_at.result _ c.is_at.ensures c.if-not-is_at.false)

pub returns : goal.returns
returns c = none_missing c.args.left.now c.args.right.now c.loop-i.i c.loop-i.at c.loop-i.invariant (omega arith)
