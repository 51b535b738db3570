use Rattle.std.proofs.Common.{length, ◌≡◌, take, All, Contains}
use Rattle.ba_facts.specs.Walks.{listed}
use Rattle.ba_facts.proofs.walk.Walk.+go_on.Given as goal

abbrev pub decreases-go_on : goal.decreases-go_on
decreases-go_on g l = length l.from.now

-- the facts before are as they were, those that were tried are among the ones so far, and this came of
-- the ones so far
abbrev pub invariant-loop-i : goal.invariant-loop-i
invariant-loop-i g l = record {
  places : length l.chosen ≡ length l.fn.chosen;
  chosen : take l.place l.chosen ≡ take l.place l.fn.chosen;
  tried : All (Contains (take l.i (listed l.offered))) (g.V.Visit.numbers l.tried);
  visited : g.V.Visit.visited l.visitor l.self l.from (take l.place l.fn.chosen) (take l.i (listed l.offered)) l.fn.state l.state;
}
