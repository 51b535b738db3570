use Rattle.ba_top.specs.Evidence.{trace_at}
use Rattle.ba_top.proofs.RestLemmas.{RestsOn}
use Rattle.ba_top.proofs.evident.rests_of.Given as goal

-- what the queries so far rest on is taken in
abbrev pub invariant-loop-place : goal.invariant-loop-place
invariant-loop-place l = RestsOn l.policy l.requests.contexts (trace_at l.requests.traces.items l.request) l.request l.queries l.by l.rests l.place
