use Rattle.std.proofs.Common.{length, refl, sym, arith}
use Rattle.std.proofs.lemmas.Option.{slice_get_read}
use Rattle.ba_answer_tests.proofs.PlainHeadLemmas.{head_lacks}
use Rattle.ba_answer_tests.proofs.tests.plain.part.make_head.Goals as goal

pub returns-in-None : goal.returns-in-None
returns-in-None c =
    λ r e.
    head_lacks _ c.args.head.now c.loop-operand.operand-index c.operand-item.result
    (slice_get_read c.args.head.now (length c.args.head.now) c.loop-operand.operand-index c.operand-item.result refl (omega arith) c.operand-item.is)
    (sym c.in-None.ensures) r e
