use Rattle.std.proofs.Common.{◌≡◌, replicate, []}
use Rattle.ba_general.proofs.layout.nothing.Given as goal

abbrev pub invariant-loop : goal.invariant-loop
invariant-loop l = l.all.items ≡ replicate l.counter []
