use Rattle.std.proofs.Common.{ℤ, pos, get_or, rules, subst}
use Rattle.std.proofs.lemmas.Int.{to_z-of_z}
use Rattle.std.proofs.lemmas.List.{take_all}
use Rattle.std.specs.Int.{w128}
use mir.Val.{SFits, to_z, of_z}
use Rattle.ba_refute.specs.Used.{HaveSame}
use Rattle.ba_refute.proofs.UsedLemmas.{same_next}
use Rattle.ba_refute.proofs.used.Used.of.Goals as goal

pub loop-number-preserved : goal.loop-number-preserved
loop-number-preserved c =
    let i = c.loop-number.number-index in
    let number : ℤ = get_or c.args.list.now i (pos 0) in
    let fits : SFits w128 number = search rules in
    same_next c.args.list.now i (to_z w128 (of_z w128 number)) c.loop-number.used c.add.new.self c.loop-number-test.true (to_z-of_z w128 number fits)
    c.loop-number.invariant c.in_ok-add.ensures

pub returns : goal.returns
returns c = subst (HaveSame c.loop-number.used) (take_all c.loop-number.number-index c.args.list.now c.loop-number-test.false) c.loop-number.invariant
