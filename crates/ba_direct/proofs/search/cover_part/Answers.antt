use Rattle.std.proofs.Common.{below_more, arith}
use Rattle.ba_direct.proofs.ResultLemmas.{at_not_some, at_some, first_of_views, none_of_views}
use Rattle.ba_direct.proofs.search.cover_part.Goals as goal

pub returns-in-Some : goal.returns-in-Some
returns-in-Some c = first_of_views _ _ _ c.loop-view.view c.in-Some.cover c.loop-view.invariant (at_some _ _ _ _ c.in-Some.is c.in_ok-found.ensures)

pub loop-view-preserved : goal.loop-view-preserved
loop-view-preserved c = below_more _ _ c.loop-view.invariant (at_not_some _ _ _ c.in_default.not-Some c.in_ok-found.ensures)

pub returns : goal.returns
returns c = none_of_views c.args.policy.now c.args.ctx.now c.args.part.now c.loop-view.view (omega arith) c.loop-view.invariant
