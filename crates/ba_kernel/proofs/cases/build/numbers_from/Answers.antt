use Rattle.ba_kernel.proofs.BuildLemmas.{numbers_more}
use Rattle.ba_kernel.proofs.cases.build.numbers_from.Goals as goal

pub loop-i-preserved : goal.loop-i-preserved
loop-i-preserved c = numbers_more c.args.first c.loop-i.i c.loop-i.numbers.items c.push.new.self.items c.in_ok-push.ensures.items c.loop-i.invariant
