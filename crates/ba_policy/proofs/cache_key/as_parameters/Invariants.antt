use Rattle.std.proofs.Common.{◌≡◌, take}
use Rattle.ba_policy.proofs.cache_key.as_parameters.Given as goal

abbrev pub invariant-loop-argument : goal.invariant-loop-argument
invariant-loop-argument l = l.found ≡ take l.argument-index l.arguments
