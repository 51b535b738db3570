use Rattle.std.proofs.Common.{◌≡◌, length}
use Rattle.ba_settle.specs.Dues.{Searches}
use Rattle.ba_instant.specs.Nexts.{AreWaiting}
use Rattle.ba_instant.proofs.ends.settle_in.Given as goal

-- each step so far was due
abbrev pub invariant-loop-taken : goal.invariant-loop-taken
invariant-loop-taken l = record {
  problem : l.search.problem ≡ l.fn.problem;
  searches : Searches l.pick l.search.problem l.search.steps l.search.slots;
  waiting : AreWaiting l.pick l.search l.waiting;
  count : length l.search.steps ≡ l._taken;
}
