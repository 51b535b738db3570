use Rattle.std.proofs.Common.{refl}
use Rattle.ba_top.proofs.EvidenceLemmas.{after_next}
use Rattle.ba_top.proofs.ProofsLemmas.{on_ok_then}
use Rattle.ba_top.proofs.requests.Requests.follow.Goals as goal

pub returns : goal.returns
returns c = on_ok_then _ _ c.add_entry.result
    (λ traces input earlier at h.
    after_next input earlier c.args.entry.now c.args.said.now c.args.self.now
    (record { contexts = c.add_context.new.contexts; traces = c.add_entry.new.traces; nothing = c.args.self.now.nothing })
    at c.in_ok-add_context.ensures traces refl h)
    c.add_entry.ensures
