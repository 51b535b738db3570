use Rattle.std.proofs.Common.{rules}
use Rattle.std.proofs.lemmas.Int.{to_z-of_z}
use Rattle.std.specs.Int.{w128}
use mir.Val.{SFits, to_z, of_z}
use Rattle.ba_refute.specs.Used.{AreWith}
use Rattle.ba_refute.proofs.UsedLemmas.{all_below_stays, with_number}
use Rattle.ba_refute.proofs.used.Used.add.Goals as goal

pub invariant_of-self-2 : goal.invariant_of-self-2
invariant_of-self-2 c =
    let fits : SFits w128 c.args.number = search rules in
    all_below_stays c.self.inside.numbers.keys c.insert.new.self.keys c.args.number c.self.inside.end
    (with_number c.self.inside.numbers c.insert.new.self (to_z w128 (of_z w128 c.args.number)) c.args.number (to_z-of_z w128 c.args.number fits) c.in_ok-insert.ensures.updates.0)
    c.self.invariant

pub returns : goal.returns
returns c =
    let fits : SFits w128 c.args.number = search rules in
    let with : AreWith c.self.inside.numbers.keys c.args.number c.insert.new.self.keys =
    with_number c.self.inside.numbers c.insert.new.self (to_z w128 (of_z w128 c.args.number)) c.args.number (to_z-of_z w128 c.args.number fits) c.in_ok-insert.ensures.updates.0 in
    rw (← c.self.view_is) with
