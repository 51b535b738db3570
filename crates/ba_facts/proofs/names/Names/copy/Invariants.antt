use Rattle.std.proofs.Common.{◌≡◌, take}
use Rattle.ba_facts.proofs.names.Names.copy.Given as goal

abbrev pub invariant-loop-term : goal.invariant-loop-term
invariant-loop-term l = l.other ≡ take l.term-index l.term-items
