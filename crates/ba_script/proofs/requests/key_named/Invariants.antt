use Rattle.std.proofs.Common.{◌≡◌, drop}
use Rattle.ba_script.specs.Reading.{key_from}
use Rattle.ba_script.proofs.requests.key_named.Given as goal

abbrev pub invariant-loop-number : goal.invariant-loop-number
invariant-loop-number l = key_from l.number l.name (drop l.number l.keys) ≡ key_from 0 l.name l.keys
