use Rattle.ba_eval.proofs.KeptLemmas.{if_ok_weaker}
use Rattle.ba_eval.proofs.TurnLemmas.{turned_tested}
use Rattle.ba_eval.proofs.turn.turned_part.Goals as goal

pub returns-in-Some : goal.returns-in-Some
returns-in-Some c =
    if_ok_weaker c.with_tables.result
    (λ other is.
    turned_tested c.args.part.now other _ _ _ _ _ _ _ c.len.ensures c.as_slice-2.ensures.value c.as_slice-3.ensures.value c.as_slice-in-Some.ensures.value c.as_slice-in-Some-2.ensures.value
    (c.is_turn.ensures c.if-not-is_turn.false) is)
    c.with_tables.ensures
