use Rattle.std.proofs.Common.{◌≡◌, ◌<◌, true, ℕ}
use Rattle.ba_template.specs.Standing.{in_problem}
use Rattle.ba_template.proofs.standing.each_var_stands.Given as goal

-- the variables so far stand
abbrev pub invariant-loop-n : goal.invariant-loop-n
invariant-loop-n l = (k : ℕ) → k < l.n → in_problem k l.problem ≡ true
