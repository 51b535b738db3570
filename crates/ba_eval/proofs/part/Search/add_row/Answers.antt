use Rattle.std.proofs.lemmas.Result.{on_ok_weaker}
use Rattle.ba_eval.proofs.SearchLemmas.{adds_head}
use Rattle.ba_eval.proofs.part.Search.add_row.Goals as goal

pub returns-in-Some : goal.returns-in-Some
returns-in-Some c =
    let conds = c.all_hold.ensures.0 c.if-not-all_hold.false in
    let head = c.in_ok-head.ensures in
    on_ok_weaker c.add.result
    (adds_head _ _ _ _ _ _ (rw c.as_slice.ensures at conds) (rw (c.in-Some.is, c.as_slice-2.ensures) at head))
    c.add.ensures
