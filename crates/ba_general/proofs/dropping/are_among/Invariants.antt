use Rattle.std.proofs.Common.{◌≡◌, ℕ, ◌<◌, false, get_or, true}
use Rattle.ba_general.proofs.dropping.are_among.Given as goal

abbrev pub invariant-loop-n : goal.invariant-loop-n
invariant-loop-n l = (k : ℕ) → k < l.n → get_or l.some.items k false ≡ true → get_or l.all.items k false ≡ true
