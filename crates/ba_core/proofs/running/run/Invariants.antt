use Rattle.ba_core.specs.Runs.{Runs}
use Rattle.ba_core.proofs.running.run.Given as goal

-- the replies so far and the machine as it stands are a run over the events so far
abbrev pub invariant-loop-event : goal.invariant-loop-event
invariant-loop-event l =
    (goal.iterator-loop-event).can_next l.event-iterator × (goal.iterator-loop-event).is_finite l.event-iterator ×
    Runs l.fn.core l.yielded l.replies.items l.core
