use Rattle.std.proofs.Common.{◌≡◌, ◌≤◌, ◌<◌, ℕ, vec_capacity, vec_len}
use Rattle.ba_cache.specs.Passes.{IsSplit, known_in}
use Rattle.ba_cache.proofs.Places.{FirstFree}
use Rattle.ba_cache.proofs.cache.Cache.split.Given as goal

abbrev pub invariant-loop-shelf : goal.invariant-loop-shelf
invariant-loop-shelf l = record {
  made : vec_len l.passes ≡ l.shelf;
  room : 8 ≤ vec_capacity l.passes;
  free : FirstFree 8 l.self.turns.items l.pass.passes.items;
  new : FirstFree l.shelf l.self.turns.items l.passes.items;
  split : (k : ℕ) → k < l.shelf → IsSplit l.allowance (known_in l.initial.pass.passes.items k) (known_in l.pass.passes.items k) (known_in l.passes.items k);
  rest : (k : ℕ) → l.shelf ≤ k → known_in l.pass.passes.items k ≡ known_in l.initial.pass.passes.items k;
}
