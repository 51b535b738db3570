use Rattle.std.proofs.Common.{length}
use Rattle.ba_store.proofs.fields.+stands.Given as goal

abbrev pub decreases-stands : goal.decreases-stands
decreases-stands l = length l.head.now
