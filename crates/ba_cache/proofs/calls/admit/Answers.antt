use Rattle.ba_cache.proofs.Histories.{legal_seen}
use Rattle.ba_cache.proofs.calls.admit.Goals as goal

pub returns-clause-legal : goal.returns-clause-legal
returns-clause-legal g c =
    let s = c.admit-answer.new.self in
    legal_seen s.calls.items _ s.rows.entries s.legal c.put.ensures.history
