use Rattle.std.proofs.Common.{◌≡◌, ◌∙◌, ◌||◌, Bool, ap, sym}
use Rattle.ba_keys.specs.Literals.{operand_with}
use Rattle.ba_send.specs.Sendable.{has_zero}
use Rattle.ba_sql_print.specs.Spelling.{IsInRange}
use Rattle.ba_send.proofs.ZeroLemmas.{all_more, any_more}
use Rattle.ba_send.proofs.zero.head_has_zero.Goals.{then-found, else-found}
use Rattle.ba_send.proofs.zero.head_has_zero.Goals as goal

pub loop-operand-preserved : goal.loop-operand-preserved
loop-operand-preserved c =
    let here : Bool = c.operand_has_zero-here.result in
    let joins : c.if-found.found ≡ (c.loop-operand.found || here) = elim c.if-found.branch [
      | then-found w ↦ w.found-is ∙ w.if-found.true ∙ sym (ap (λ (b : Bool). b || here) w.if-found.true)
      | else-found w ↦ w.found-is ∙ sym (ap (λ (b : Bool). b || here) w.if-found.false)
    ] in (
      any_more has_zero (operand_with 0 c.args.values.now) c.args.head.now c.loop-operand.operand-index c.operand-item.result c.loop-operand.found here c.if-found.found c.loop-operand-test.true c.operand-item.is
          c.loop-operand.invariant.0 c.operand_has_zero-here.ensures.zero joins,
      all_more IsInRange (operand_with 0 c.args.values.now) c.args.head.now c.loop-operand.operand-index c.operand-item.result c.loop-operand-test.true c.operand-item.is c.loop-operand.invariant.1 c.operand_has_zero-here.ensures.range,
    )
