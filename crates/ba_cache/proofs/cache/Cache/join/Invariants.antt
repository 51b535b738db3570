use Rattle.std.proofs.Common.{◌≡◌, ◌≤◌, ◌<◌, ◌+◌, ℕ, drop}
use Rattle.std.specs.Iterator.Adapters.{enumerate_count, enumerate_source}
use Rattle.std.specs.Vec.Iter.{into_iter_items, into_iter_len}
use Rattle.ba_cache.specs.Passes.{IsJoined, known_in}
use Rattle.ba_cache.proofs.Places.{FirstFree}
use Rattle.ba_cache.proofs.cache.Cache.join.Given as goal

abbrev pub invariant-loop-shelf : goal.invariant-loop-shelf
invariant-loop-shelf l = record {
  can : (goal.iterator-loop-shelf).can_next l.shelf-iterator;
  finite : (goal.iterator-loop-shelf).is_finite l.shelf-iterator;
  left : enumerate_count l.shelf-iterator + into_iter_len (enumerate_source l.shelf-iterator) ≡ 8;
  items : into_iter_items (enumerate_source l.shelf-iterator) ≡ drop (enumerate_count l.shelf-iterator) l.fn.other.passes.items;
  free : FirstFree 8 l.self.turns.items l.pass.passes.items;
  joined : (k : ℕ) → k < enumerate_count l.shelf-iterator → IsJoined (known_in l.initial.pass.passes.items k) (known_in l.fn.other.passes.items k) (known_in l.pass.passes.items k);
  rest : (k : ℕ) → enumerate_count l.shelf-iterator ≤ k → known_in l.pass.passes.items k ≡ known_in l.initial.pass.passes.items k;
}
