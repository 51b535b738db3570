use Rattle.std.proofs.Common.{sym, subst}
use Rattle.std.specs.Prelude.{IfSome}
use Rattle.ba_model.specs.Meaning.{rows_of}
use Rattle.ba_eval.proofs.KeptLemmas.{HasTiedOrder, one_of, tied_here}
use Rattle.ba_eval.proofs.kept.longest_front.Goals.{then-order-table+in_ok-front, else-order-table}
use Rattle.ba_eval.proofs.kept.longest_front.Goals as goal

pub loop-order-preserved : goal.loop-order-preserved
loop-order-preserved c =
    elim c.if-order-table.branch [
      | then-order-table+in_ok-front w ↦
          subst (λ o. IfSome o (HasTiedOrder (rows_of c.args.search.now.rows.now c.args.table) c.args.ties.now)) (sym w.longest-is)
          (one_of _ _ _ _ _ c.loop-order.invariant
          (tied_here c.args.search.now.rows.now _ _ _ _ _ _ _ c.requires c.loop-order-test.true c.order-item.is w.if-order-table.true w.as_slice.ensures w.in_ok-front.ensures)
          w.longer-longest.ensures)
      | else-order-table w ↦ subst (λ o. IfSome o (HasTiedOrder (rows_of c.args.search.now.rows.now c.args.table) c.args.ties.now)) (sym w.longest-is) c.loop-order.invariant
    ]
