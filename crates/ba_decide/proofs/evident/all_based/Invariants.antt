use Rattle.std.proofs.Common.{take}
use Rattle.ba_decide.specs.Evident.{HoldsBased}
use Rattle.ba_decide.proofs.evident.all_based.Given as goal

-- the first queries are told
abbrev pub invariant-loop-i : goal.invariant-loop-i
invariant-loop-i l = HoldsBased l.live.policy l.asker (take l.i l.queries) (take l.i l.by) l.grounds
