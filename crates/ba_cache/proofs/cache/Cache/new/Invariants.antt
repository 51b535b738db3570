use Rattle.std.proofs.Common.{◌≡◌, ◌≤◌, ◌<◌, ℕ, vec_capacity, vec_len}
use Rattle.ba_cache.specs.Passes.{IsOpened, known_in}
use Rattle.ba_cache.proofs.Places.{FirstFree}
use Rattle.ba_cache.proofs.cache.Cache.new.Given as goal

abbrev pub invariant-loop : goal.invariant-loop
invariant-loop l = record {
  turns : vec_len l.turns ≡ l.counter;
  passes : vec_len l.passes ≡ l.counter;
  turns_room : 8 ≤ vec_capacity l.turns;
  passes_room : 8 ≤ vec_capacity l.passes;
  free : FirstFree l.counter l.turns.items l.passes.items;
  known : (k : ℕ) → k < l.counter → IsOpened l.allowance (known_in l.passes.items k);
}
