-- A service in which nothing was open served the lines.
use Rattle.std.proofs.Common.{ℕ, inl, subst}
use Rattle.ba_input.specs.declared.deciding.PolicyInput.{PolicyInput}
use Rattle.ba_judge.specs.Judging.{effort_in}
use Rattle.ba_live.specs.Wellformed.{IsFresh}
use Rattle.ba_live.specs.declared.live.Live.{Live}
use Rattle.ba_outside.specs.Seen.{SinkSeen}
use Rattle.ba_source.specs.Seen.{SourceSeen}
use Rattle.ba_decide.proofs.HeadLemmas.{runs_headline}
use Rattle.ba_decide.specs.Decided.{ServesInput}
use Rattle.ba_decide.specs.Ran.{Served}
use Rattle.ba_decide.specs.declared.top.Ending.{Ending}

pub serves_fresh : (input : PolicyInput) (how : Ending) (source left : SourceSeen) (old new : SinkSeen) (start : Live) → IsFresh input.policy input.target input.loaded input.budget start
    → Served input.evidence (effort_in 1 start.budget) start how source left old new → ServesInput input how source left old new
serves_fresh input how source left old new start fresh served =
    let s = subst (λ (b : ℕ). Served input.evidence (effort_in 1 b) start how source left old new) fresh.budget_is served in
    inl (record { start = start; fresh = fresh; served = s; headline = runs_headline input.policy input.target input.loaded input.budget input.evidence (effort_in 1 input.budget) start s.journal s.texts s.last fresh s.runs })
