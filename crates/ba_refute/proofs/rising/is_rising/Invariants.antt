use Rattle.ba_refute.proofs.RisingLemmas.{RiseTo}
use Rattle.ba_refute.proofs.rising.is_rising.Given as goal

-- each row so far is less than the next
abbrev pub invariant-loop-i : goal.invariant-loop-i
invariant-loop-i l = RiseTo l.rows l.i
