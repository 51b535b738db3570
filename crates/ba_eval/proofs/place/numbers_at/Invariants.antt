use Rattle.std.proofs.Common.{◌≡◌, map, take}
use Rattle.ba_eval.proofs.place.numbers_at.Given as goal

-- the numbers of the entries so far
abbrev pub invariant-loop-entry : goal.invariant-loop-entry
invariant-loop-entry l = l.numbers.items ≡ map (λ entry. entry.number) (take l.entry-index l.found)
