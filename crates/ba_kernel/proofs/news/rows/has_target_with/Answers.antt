use Rattle.ba_kernel.proofs.TargetLemmas.{held_at, held_nowhere}
use Rattle.ba_kernel.proofs.news.rows.has_target_with.Goals as goal

pub returns-in-Some : goal.returns-in-Some
returns-in-Some c = held_at c.args.branch.now c.args.fact.now c.args.link.now c.args.unknown c.holder.result c.in-Some.number c.is_target_at.result c.holder.ensures c.in-Some.is c.is_target_at.ensures

pub returns-in-None : goal.returns-in-None
returns-in-None c = held_nowhere c.args.branch.now c.args.fact.now c.args.link.now c.args.unknown c.holder.result c.holder.ensures c.in-None.is
