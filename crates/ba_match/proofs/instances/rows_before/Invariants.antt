use Rattle.std.proofs.Common.{◌≡◌}
use Rattle.ba_match.specs.Instances.{rows_before}
use Rattle.ba_match.proofs.instances.rows_before.Given as goal

abbrev pub invariant-loop-t : goal.invariant-loop-t
invariant-loop-t l = l.sum ≡ rows_before l.trace l.t
