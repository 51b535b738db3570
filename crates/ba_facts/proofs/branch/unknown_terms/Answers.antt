use Rattle.ba_facts.proofs.UnknownLemmas.{unknowns_more}
use Rattle.ba_facts.proofs.branch.unknown_terms.Goals as goal

pub loop-i-preserved : goal.loop-i-preserved
loop-i-preserved c = unknowns_more c.args.first c.loop-i.i _ _ c.in_ok-push.ensures.items c.loop-i.invariant
