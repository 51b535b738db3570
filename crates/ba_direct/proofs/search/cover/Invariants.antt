use Rattle.std.proofs.Common.{take}
use Rattle.std.specs.List.{AllZip}
use Rattle.ba_direct.specs.Cover.{IsFirst}
use Rattle.ba_direct.proofs.search.cover.Given as goal

-- the parts so far are covered
abbrev pub invariant-loop-part : goal.invariant-loop-part
invariant-loop-part l = AllZip (IsFirst l.policy l.ctx) (take l.part-index l.part-items) l.parts.items
