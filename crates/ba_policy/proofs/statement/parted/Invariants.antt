use Rattle.std.proofs.Common.{map}
use Rattle.ba_policy.proofs.KeyLemmas.{PartingAt}
use Rattle.ba_policy.proofs.statement.parted.Given as goal

abbrev pub invariant-loop-at : goal.invariant-loop-at
invariant-loop-at l = PartingAt (map (λ query. query.now) l.found) l.start l.at l.words
