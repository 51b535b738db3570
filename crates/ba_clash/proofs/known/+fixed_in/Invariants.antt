use Rattle.std.proofs.Common.{length}
use Rattle.ba_clash.proofs.known.+fixed_in.Given as goal

abbrev pub decreases-fixed_in : goal.decreases-fixed_in
decreases-fixed_in l = length l.atoms.now
