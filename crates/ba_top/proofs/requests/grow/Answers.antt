use Rattle.std.proofs.Common.{◌≡◌, ◌∙◌, List, [], ◌∷◌, ◌++◌, ap, arith, length}
use Rattle.std.proofs.lemmas.List.{length_push}
use Rattle.ba_comply.specs.declared.trace.TraceEntry.{TraceEntry}
use Rattle.ba_top.specs.Evidence.{trace_at}
use Rattle.ba_top.proofs.EvidenceLemmas.{trace_grown}
use Rattle.ba_top.proofs.requests.grow.Goals as goal

pub loop-preserved : goal.loop-preserved
loop-preserved c =
    let pushed = c.in_ok-push.ensures.items ∙ ap (λ (t : List TraceEntry). c.loop.traces.items ++ t ∷ []) c.new.ensures in (
      (λ n. ap (λ ts. trace_at ts n) pushed ∙ trace_grown c.loop.traces.items n ∙ c.loop.invariant.0 n),
      omega (arith, ap length pushed, length_push c.loop.traces.items [], c.loop.invariant.1),
    )
