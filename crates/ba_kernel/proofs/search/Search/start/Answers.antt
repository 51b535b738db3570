use Rattle.ba_kernel.proofs.SearchLemmas.{start_course}
use Rattle.ba_kernel.proofs.search.Search.start.Goals as goal

pub invariant_of-result : goal.invariant_of-result
invariant_of-result c = (start_course c.args.problem c.new.result c.in_ok-slots.slots.items c.requires c.new.ensures c.in_ok-slots.ensures.start, tt)
