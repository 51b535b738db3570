use Rattle.std.proofs.Common.{◌≡◌}
use Rattle.ba_judge.specs.Judging.{effort_in}
use Rattle.ba_live.specs.Wellformed.{IsLive}
use Rattle.ba_decide.specs.Ran.{Serving}
use Rattle.ba_decide.proofs.serve.serve.Given as goal

-- the lines so far were served, and each was answered
abbrev pub invariant-loop-line : goal.invariant-loop-line
invariant-loop-line g l =
    IsLive l.line l.live × (l.live.budget ≡ l.initial.live.budget)
    × Serving l.evidence (effort_in (g.E.Settle.orders l.settle) l.initial.live.budget) l.initial.live l.live l.line
    (g.L.Source.seen l.initial.source) (g.L.Source.seen l.source) (g.S.Sink.seen l.initial.sink) (g.S.Sink.seen l.sink)
