use Rattle.std.proofs.Common.{◌≡◌, length}
use Rattle.ba_general.proofs.guessing.guessed.Given as goal

abbrev pub invariant-loop-n : goal.invariant-loop-n
invariant-loop-n l = length l.kept.items ≡ l.n
