use Rattle.std.proofs.Common.{◌∙◌, ◌+◌, sym, refl, length, arith}
use Rattle.std.proofs.lemmas.Option.{slice_get_read}
use Rattle.ba_tables.specs.Broken.{dangles}
use Rattle.ba_tables.proofs.PositionLemmas.{position-left, position-next}
use Rattle.ba_tables.proofs.by_order.none_dangles.Goals as goal

pub loop-i-preserved : goal.loop-i-preserved
loop-i-preserved c =
    let row = slice_get_read c.args.rows.now (length c.args.rows.now) c.loop-i.i c.index-rows-i.result refl c.loop-i-test.true c.index-rows-i.is in
    sym (position-next (dangles c.args.link.now c.args.targets.now) (c.loop-i.i + 1) c.args.rows.now c.loop-i.i c.index-rows-i.result row (c.in_ok-bound.ensures c.if-not-bound.false)) ∙ c.loop-i.invariant

pub returns : goal.returns
returns c = λ yes. position-left (dangles c.args.link.now c.args.targets.now) (c.loop-i.i + 1) c.loop-i.i c.args.rows.now (omega arith) c.loop-i.invariant
