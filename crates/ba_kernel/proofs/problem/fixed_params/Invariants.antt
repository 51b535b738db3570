use Rattle.std.proofs.Common.{◌≡◌, length, map, take}
use Rattle.std.specs.List.{range_with_len, zip}
use Rattle.ba_kernel.specs.Problems.{param_is}
use Rattle.ba_kernel.proofs.problem.fixed_params.Given as goal

-- the parameters so far have their values
abbrev pub invariant-loop-n : goal.invariant-loop-n
invariant-loop-n l = l.atoms.items ≡ map param_is (take l.n (zip (range_with_len 0 (length l.values)) l.values))
