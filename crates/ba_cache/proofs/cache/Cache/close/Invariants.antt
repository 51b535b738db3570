use Rattle.std.proofs.Common.{◌≡◌, ◌≤◌, ◌<◌, ◌+◌, ℕ, drop, get_or, vec_capacity, vec_len}
use Rattle.std.specs.Iterator.Adapters.{zip_first, zip_second}
use Rattle.std.specs.Vec.Iter.{into_iter_items, into_iter_len}
use Rattle.ba_cache.specs.Passes.{ClosedShelf, IsClosed, known_in}
use Rattle.ba_cache.proofs.cache.Cache.close.Given as goal

abbrev pub invariant-loop-turn : goal.invariant-loop-turn
invariant-loop-turn l = record {
  can : (goal.iterator-loop-turn).can_next l.turn-iterator;
  finite : (goal.iterator-loop-turn).is_finite l.turn-iterator;
  room : 8 ≤ vec_capacity l.closed;
  turns_left : vec_len l.closed + into_iter_len (zip_first l.turn-iterator) ≡ 8;
  passes_left : vec_len l.closed + into_iter_len (zip_second l.turn-iterator) ≡ 8;
  turns : into_iter_items (zip_first l.turn-iterator) ≡ drop (vec_len l.closed) l.fn.self.turns.items;
  passes : into_iter_items (zip_second l.turn-iterator) ≡ drop (vec_len l.closed) l.fn.pass.passes.items;
  closed : (k : ℕ) (c : ClosedShelf) → k < vec_len l.closed → IsClosed (known_in l.fn.pass.passes.items k) (get_or l.closed.items k c).0 (get_or l.closed.items k c).1.items;
}
