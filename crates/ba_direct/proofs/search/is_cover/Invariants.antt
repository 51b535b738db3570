use Rattle.std.proofs.Common.{take}
use Rattle.std.specs.List.{AllZip}
use Rattle.ba_direct.specs.Cover.{CoversPart}
use Rattle.ba_direct.proofs.search.is_cover.Given as goal

-- the parts so far are covered
abbrev pub invariant-loop-i : goal.invariant-loop-i
invariant-loop-i l = AllZip (CoversPart l.policy l.ctx) (take l.i l.query.parts) (take l.i l.cover.parts)
