use Rattle.ba_cache.proofs.Histories.{legal_seen}
use Rattle.ba_cache.proofs.calls.look.Goals as goal

pub returns-clause-legal : goal.returns-clause-legal
returns-clause-legal g c =
    let s = c.look-found.new.self in
    legal_seen s.calls.items _ s.rows.entries s.legal c.put.ensures.history
