use Rattle.ba_match.proofs.AlikeLemmas.{unlike}
use Rattle.ba_match.proofs.matching.with_query.Goals as goal

pub returns-then-not-are_alike : goal.returns-then-not-are_alike
returns-then-not-are_alike c =
    unlike c.args.bound.now c.args.entry.now.query c.args.told.now.query c.deref.result.now c.deref-2.result.now c.deref.ensures c.deref-2.ensures
    c.are_alike.result c.are_alike.ensures.1 c.if-not-are_alike.true
