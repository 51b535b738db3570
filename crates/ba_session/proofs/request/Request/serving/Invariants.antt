use Rattle.std.proofs.Common.{take}
use Rattle.ba_session.specs.Asking.{NoneMatches}
use Rattle.ba_session.proofs.request.Request.serving.Given as goal

-- none of the templates so far matches
abbrev pub invariant-loop-kept : goal.invariant-loop-kept
invariant-loop-kept l = NoneMatches l.policy l.self l.query (take l.kept-index l.found)
