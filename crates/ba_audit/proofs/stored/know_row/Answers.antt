use Rattle.std.proofs.Common.{All, subst}
use Rattle.std.proofs.lemmas.List.{take_all}
use Rattle.std.proofs.lemmas.List.Elements.{All-more}
use Rattle.ba_refute.specs.Counterexamples.{IsStored}
use Rattle.ba_audit.proofs.stored.know_row.Goals as goal

pub loop-value-preserved : goal.loop-value-preserved
loop-value-preserved c =
    All-more IsStored c.args.row.now c.loop-value.value-index c.value-item.result c.loop-value-test.true c.loop-value.invariant (subst IsStored c.value-item.is c.know_value.ensures)

pub returns : goal.returns
returns c = subst (All IsStored) (take_all c.loop-value.value-index c.args.row.now c.loop-value-test.false) c.loop-value.invariant
