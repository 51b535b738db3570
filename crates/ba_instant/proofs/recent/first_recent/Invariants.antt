use Rattle.ba_instant.specs.Agendas.{AreOlder}
use Rattle.ba_instant.proofs.recent.first_recent.Given as goal

-- the facts so far are older
abbrev pub invariant-loop-number : goal.invariant-loop-number
invariant-loop-number l = AreOlder l.branch l.number l.bound
