use Rattle.std.proofs.Common.{◌≡◌, [], length}
use Rattle.std.specs.List.{All}
use Rattle.ba_told.proofs.entries.empty_lists.Given as goal

-- as many as were made are there, and are empty
abbrev pub invariant-loop : goal.invariant-loop
invariant-loop l = (length l.lists.items ≡ l.counter) × All (λ list. list ≡ []) l.lists.items
