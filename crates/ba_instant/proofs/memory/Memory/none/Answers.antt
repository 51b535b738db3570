use Rattle.ba_instant.proofs.ToldLemmas.{none_told, told_more}
use Rattle.ba_instant.proofs.memory.Memory.none.Goals as goal

pub loop-number-preserved : goal.loop-number-preserved
loop-number-preserved c =
    let more =
    told_more c.args.search.now c.loop-number.each.items c.push.new.self.items c.loop-number._number c.none.result c.in_ok-push.ensures.items c.loop-number.invariant.count c.loop-number.invariant.told
    (λ b open_. none_told c.args.search.now.problem b c.none.result c.none.ensures) in
    record { count = more.0; told = more.1 }
