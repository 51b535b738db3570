use Rattle.std.proofs.Common.{◌≡◌, take}
use Rattle.ba_match.proofs.bindings.Bindings.copy.Given as goal

-- the copies so far are what is fixed so far
abbrev pub invariant-loop-fixed : goal.invariant-loop-fixed
invariant-loop-fixed l = l.values.items ≡ take l.fixed-index l.fixed-items
