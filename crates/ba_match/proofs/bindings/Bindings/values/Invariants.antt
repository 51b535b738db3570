use Rattle.std.proofs.Common.{◌≡◌, map, take}
use Rattle.std.specs.Prelude.{Some}
use Rattle.ba_match.proofs.bindings.Bindings.values.Given as goal

-- the values so far are fixed so far
abbrev pub invariant-loop-fixed : goal.invariant-loop-fixed
invariant-loop-fixed l = take l.fixed-index l.fixed-items ≡ map Some l.all
