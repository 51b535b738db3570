use Rattle.std.proofs.Common.{length}
use Rattle.ba_facts.proofs.knowledge.Knowledge.+one_class_each.Given as goal

abbrev pub decreases-one_class_each : goal.decreases-one_class_each
decreases-one_class_each l = length l.left.now
