use Rattle.std.proofs.Common.{◌≤◌, length, vec_capacity}
use Rattle.ba_lanes.specs.Legal.{lane_of}
use Rattle.ba_lanes.proofs.WorkLemmas.{Merging}
use Rattle.ba_lanes.proofs.work.merge.Given as goal

-- the entries of the lines so far are taken, and those of the others are left
abbrev pub invariant-loop-said : goal.invariant-loop-said
invariant-loop-said l = record {
  merging : Merging (λ it. it.items) (lane_of l.input.workers) l.input.workers l.said-items l.fn.queues.items l.said-index l.queues.items l.entries.items;
  room : length l.said-items ≤ vec_capacity l.entries;
}
