use Rattle.std.proofs.Common.{◌<◌, arith, get_or, length}
use Rattle.std.proofs.lemmas.Option.{get_or_from_slice_get, slice_get-get_or}
use Rattle.ba_instant.proofs.alike.has_alike.Goals as goal

pub returns-then-are_alike : goal.returns-then-are_alike
returns-then-are_alike c = λ e.
    let others = c.args.others.now in
    let i = c.loop-i.i in
    let inside : c.loop-i.i < length c.args.others.now = omega arith in
    (i, get_or others i 0, inside, get_or_from_slice_get others i (get_or others i 0) (get_or others i 0) (slice_get-get_or others i 0 inside), c.are_alike.ensures.0 c.if-are_alike.true)
