use Rattle.ba_policy.proofs.KeyLemmas.{RepeatingAt}
use Rattle.ba_policy.proofs.cache_key.first_repeat.Given as goal

abbrev pub invariant-loop-argument : goal.invariant-loop-argument
invariant-loop-argument l = RepeatingAt l.params l.before l.arguments l.argument-index
