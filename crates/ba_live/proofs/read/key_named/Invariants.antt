use Rattle.std.proofs.Common.{◌≡◌, drop}
use Rattle.ba_live.specs.Steps.{key_named}
use Rattle.ba_live.proofs.read.key_named.Given as goal

abbrev pub invariant-loop-key : goal.invariant-loop-key
invariant-loop-key l = key_named l.name (drop l.key-index l.keys) ≡ key_named l.name l.keys
