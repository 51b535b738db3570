use Rattle.std.proofs.Common.{length}
use Rattle.ba_instant.specs.Agendas.{IsTrimmed}
use Rattle.ba_instant.proofs.agenda.Agenda.drop_old.Given as goal

-- what was an agenda is one still
abbrev pub invariant-loop-alloc : goal.invariant-loop-alloc
invariant-loop-alloc l = IsTrimmed l.search l.fn.self l.self

abbrev pub decreases-loop-alloc : goal.decreases-loop-alloc
decreases-loop-alloc l = length l.self.steps.items
