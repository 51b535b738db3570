use Rattle.std.proofs.Common.{◌<◌, length}
use Rattle.ba_instant.proofs.outlook.narrowest.Given as goal

abbrev pub invariant-loop-i : goal.invariant-loop-i
invariant-loop-i l = l.best < length l.places
