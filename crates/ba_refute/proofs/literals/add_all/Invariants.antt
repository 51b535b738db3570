use Rattle.std.proofs.Common.{◌≡◌, ◌++◌, map, take}
use Rattle.std.specs.List.{flat_map}
use Rattle.ba_refute.proofs.literals.add_all.Given as goal

abbrev pub invariant-loop-one : goal.invariant-loop-one
invariant-loop-one g l = map (λ v. v.now) l.found.items ≡ map (λ v. v.now) l.fn.found.items ++ flat_map g.T.HasLiterals.literals (take l.one-index l.each)
