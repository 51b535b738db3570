use Rattle.ba_answer_tests.proofs.PlainSearchLemmas.{adds_head}
use Rattle.ba_answer_tests.proofs.tests.plain.part.Search.add_row.Goals as goal

pub returns-in_ok-push-in-Some : goal.returns-in_ok-push-in-Some
returns-in_ok-push-in-Some c =
    let conds = c.all_hold.ensures.0 c.if-not-all_hold.false in
    let head = c.in_ok-head.ensures in
    adds_head _ _ _ _ _ _ c.in_ok-push-in-Some.ensures.items (rw c.as_slice.ensures at conds) (rw (c.in-Some.is, c.as_slice-2.ensures) at head)
