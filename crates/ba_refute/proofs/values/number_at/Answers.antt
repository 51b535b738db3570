use Rattle.std.proofs.Common.{◌≡◌, ℤ, pos, get_or, rules, sym}
use Rattle.std.proofs.lemmas.Int.{to_z-of_z}
use Rattle.std.specs.Int.{w128}
use mir.Val.{SFits, to_z, of_z}
use Rattle.ba_refute.proofs.ValueLemmas.{not_found, zip_searched}
use Rattle.ba_refute.proofs.values.number_at.Goals as goal

pub returns-in-Ok : goal.returns-in-Ok
returns-in-Ok c =
    let value : ℤ = get_or c.args.numbers.now c.in-Ok.i (pos 0) in
    let fits : SFits w128 value = search rules in
    let same : to_z w128 (of_z w128 value) ≡ value = to_z-of_z w128 value fits in
    zip_searched c.args.nodes.now c.args.numbers.now c.in-Ok.i c.args.n (to_z w128 (of_z w128 value)) c.requires.rising c.requires.numbered c.in-Ok.ensures.position (sym same)

pub returns-in-Err : goal.returns-in-Err
returns-in-Err c = not_found c.args.nodes.now c.in-Err.field-0 c.args.n c.requires.rising c.in-Err.ensures.position
