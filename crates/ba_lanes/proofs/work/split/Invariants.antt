use Rattle.std.proofs.Common.{◌≡◌, ℕ, ◌<◌, ◌≤◌, List, get_or, length, vec_capacity}
use Rattle.ba_session.specs.Passing.{AreOf}
use Rattle.ba_lanes.specs.Legal.{Load}
use Rattle.ba_lanes.specs.Serving.{HaveDealt, SeeLoads}
use Rattle.ba_lanes.specs.Working.{IsWork}
use Rattle.ba_lanes.proofs.work.split.Given as goal

-- the lanes so far are ready, and what the others may take is left
abbrev pub invariant-loop-number : goal.invariant-loop-number
invariant-loop-number g l = record {
  of : AreOf l.service l.passes;
  dealt : (loads : List Load) × HaveDealt l.input loads l.number l.passes × ((k : ℕ) (d : _) → k < l.number → SeeLoads loads (get_or l.works.items k d).lane.passes);
  many : length l.works.items ≡ l.number;
  room : l.input.workers ≤ vec_capacity l.works;
  ready : (k : ℕ) (d : _) → k < l.number → IsWork g.S.Settle.orders l.input l.service k (get_or l.works.items k d);
}
