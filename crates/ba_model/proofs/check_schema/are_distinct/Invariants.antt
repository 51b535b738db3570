use Rattle.std.proofs.Common.{◌≡◌, take}
use Rattle.ba_model.proofs.check_schema.are_distinct.Given as goal

-- the items so far are the set's
abbrev pub invariant-loop-item : goal.invariant-loop-item
invariant-loop-item g l = l.seen.keys ≡ take l.item-index l.items
