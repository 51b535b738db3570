use Rattle.std.proofs.Common.{◌≡◌}
use Rattle.ba_session.specs.Asking.{effort_in}
use Rattle.ba_session.specs.Passing.{AreOf}
use Rattle.ba_session.proofs.ReadingLemmas.{ReadingAt}
use Rattle.ba_session.proofs.request.Request.read_all.Given as goal

-- the first queries have their grounds, and the passes are still the service's
abbrev pub invariant-loop-i : goal.invariant-loop-i
invariant-loop-i g l =
    (l.queries ≡ l.fn.queries)
    × ReadingAt l.service.policy l.self (effort_in (g.S.Settle.orders l.settle) l.budget) l.fn.queries l.before l.i l.fn.passes l.passes
    × AreOf l.service l.passes
