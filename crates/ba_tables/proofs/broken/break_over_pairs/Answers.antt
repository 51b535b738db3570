use Rattle.std.proofs.lemmas.Result.{IfOk-weaker}
use Rattle.ba_tables.proofs.PairLemmas.{first_once}
use Rattle.ba_tables.proofs.broken.break_over_pairs.Goals as goal

pub returns : goal.returns
returns c = IfOk-weaker c.link_break-2.result _ _ (λ found h. first_once c.args.rows.now c.args.table c.args.link.now c.in_ok-once.once found c.in_ok-once.ensures h) c.link_break-2.ensures
