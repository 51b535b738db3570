use Rattle.ba_refute.proofs.LoopLemmas.{told}
use Rattle.ba_refute.proofs.OnceLemmas.{risen}
use Rattle.ba_refute.proofs.once.add_row.Goals as goal

pub returns-then-rises-clause-rows : goal.returns-then-rises-clause-rows
returns-then-rises-clause-rows c =
    (risen c.args.rows.now.items c.deref.result.now c.push.new.self.items c.args.row c.args.seen.now c.requires (c.is_empty.ensures.0 (told c.if-is_empty.true)) c.deref.ensures.value
    (c.rises.ensures (told c.if-rises.true)) c.in_ok-push.ensures.items).0

pub returns-then-rises-clause-seen : goal.returns-then-rises-clause-seen
returns-then-rises-clause-seen c =
    (risen c.args.rows.now.items c.deref.result.now c.push.new.self.items c.args.row c.args.seen.now c.requires (c.is_empty.ensures.0 (told c.if-is_empty.true)) c.deref.ensures.value
    (c.rises.ensures (told c.if-rises.true)) c.in_ok-push.ensures.items).1
