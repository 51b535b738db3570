use Rattle.std.proofs.Common.{◌≡◌, take}
use Rattle.ba_policy.specs.Meaning.{scope_of}
use Rattle.ba_policy.proofs.cache_key.scope_of.Given as goal

abbrev pub invariant-loop-argument : goal.invariant-loop-argument
invariant-loop-argument l = l.scope ≡ scope_of l.all l.count (take l.argument-index l.arguments)
