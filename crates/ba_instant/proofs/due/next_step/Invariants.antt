use Rattle.ba_settle.specs.Dues.{HaveNewBelow}
use Rattle.ba_instant.specs.Nexts.{AreWaiting, IsFirstBelow}
use Rattle.ba_instant.proofs.due.next_step.Given as goal

-- no branch so far is saturated, and of their due steps the one is kept that is picked
abbrev pub invariant-loop-number : goal.invariant-loop-number
invariant-loop-number l = record {
  news : HaveNewBelow l.search.problem l.search.slots l.number;
  first : IsFirstBelow l.pick l.search l.number l.first;
  waiting : AreWaiting l.pick l.search l.waiting;
}
