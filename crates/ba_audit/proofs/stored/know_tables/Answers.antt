use Rattle.std.proofs.Common.{◌∙◌, All, subst}
use Rattle.std.proofs.lemmas.List.{take_all}
use Rattle.std.proofs.lemmas.List.Elements.{All-more}
use Rattle.ba_refute.specs.Counterexamples.{IsStored}
use Rattle.ba_audit.proofs.stored.know_tables.Goals as goal

pub loop-rows-preserved : goal.loop-rows-preserved
loop-rows-preserved c =
    All-more (All (All IsStored)) c.args.tables.now c.loop-rows.rows-index c.rows-item.result c.loop-rows-test.true c.loop-rows.invariant
    (subst (All (All IsStored)) (c.as_slice.ensures ∙ c.rows-item.is) c.know_rows.ensures)

pub returns : goal.returns
returns c = subst (All (All (All IsStored))) (take_all c.loop-rows.rows-index c.args.tables.now c.loop-rows-test.false) c.loop-rows.invariant
