use Rattle.std.proofs.Common.{◌≡◌, take}
use Rattle.ba_policy.proofs.KeyLemmas.{declared_in}
use Rattle.ba_policy.proofs.cache_key.declared.Given as goal

abbrev pub invariant-loop-at : goal.invariant-loop-at
invariant-loop-at l = l.found ≡ take l.at (declared_in l.count l.all)
