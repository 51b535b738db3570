use Rattle.std.proofs.Common.{length, refl, arith}
use Rattle.std.proofs.lemmas.Option.{slice_get_read}
use Rattle.ba_eval.proofs.HeadLemmas.{head_lacks}
use Rattle.ba_eval.proofs.tie.key_of_chosen.Goals as goal

pub returns-in-None : goal.returns-in-None
returns-in-None c =
    λ key e.
    head_lacks _ c.args.ties.now c.loop-tie.tie-index c.tie-item.result
    (slice_get_read c.args.ties.now (length c.args.ties.now) c.loop-tie.tie-index c.tie-item.result refl (omega arith) c.tie-item.is)
    (let none = c.in-None.ensures in let found = c.value_of_chosen.ensures in cc) key e
