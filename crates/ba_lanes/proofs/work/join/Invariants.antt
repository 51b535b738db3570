use Rattle.std.proofs.Common.{◌≡◌, ◌≤◌, drop, length, vec_capacity}
use Rattle.std.specs.Vec.Iter.{into_iter_items}
use Rattle.ba_lanes.proofs.WorkLemmas.{Gathering}
use Rattle.ba_lanes.proofs.work.join.Given as goal

-- the first lanes are joined, and their entries gathered
abbrev pub invariant-loop-work : goal.invariant-loop-work
invariant-loop-work g l = record {
  can : (goal.iterator-loop-work g).can_next l.work-iterator;
  finite : (goal.iterator-loop-work g).is_finite l.work-iterator;
  gathering : Gathering (λ it. it.items) l.input l.service l.fn.works.items (length l.queues.items) l.queues.items l.passes;
  left : into_iter_items l.work-iterator ≡ drop (length l.queues.items) l.fn.works.items;
  room : length l.fn.works.items ≤ vec_capacity l.queues;
}
