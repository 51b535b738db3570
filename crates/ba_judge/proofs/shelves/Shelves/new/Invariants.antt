use Rattle.std.proofs.Common.{◌≡◌, ℕ, ◌≤◌, [], vec_capacity, vec_len}
use Rattle.ba_judge.specs.Shelves.{rows_in}
use Rattle.ba_judge.proofs.shelves.Shelves.new.Given as goal

abbrev pub invariant-loop : goal.invariant-loop
invariant-loop l = record {
  made : vec_len l.shelves ≡ l.counter;
  room : 8 ≤ vec_capacity l.shelves;
  empty : (k : ℕ) → rows_in l.shelves.items k ≡ [];
}
