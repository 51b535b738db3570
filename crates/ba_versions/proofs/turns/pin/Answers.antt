use Rattle.std.proofs.Common.{◌∙◌, ap}
use Rattle.ba_versions.proofs.Legal.{legal_seen}
use Rattle.ba_versions.specs.Reads.{opening_of}
use Rattle.ba_versions.proofs.turns.pin.Goals as goal

pub returns-clause-legal : goal.returns-clause-legal
returns-clause-legal g c =
    let s = c.pin-pinned.new.self in
    let same = c.pin-pinned.ensures.opening ∙ ap opening_of c.value.ensures.value ∙ c.take-held.ensures.value.opening_is in
    legal_seen _ _ s.calls.items _ s.tables.items same s.legal c.put.ensures.history
