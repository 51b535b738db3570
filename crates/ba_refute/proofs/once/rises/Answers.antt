use Rattle.ba_refute.proofs.OnceLemmas.{above_last, above_none}
use Rattle.ba_refute.proofs.once.rises.Goals as goal

pub returns-in-Some : goal.returns-in-Some
returns-in-Some c = above_last c.args.rows.now c.in-Some.last.now c.args.row.now c.cmp.result c.is_lt.result c.in-Some.ensures.value c.cmp.ensures c.is_lt.ensures

pub returns-in-None : goal.returns-in-None
returns-in-None c = λ t rising. above_none c.args.rows.now c.args.row.now c.in-None.ensures.value
