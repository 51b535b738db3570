use Rattle.std.proofs.Common.{◌≡◌, [], ◌∷◌, map, take}
use Rattle.ba_sql_query.specs.Parts.{equation}
use Rattle.ba_sql_query.proofs.expand.equations.Given as goal

abbrev pub invariant-loop-constant : goal.invariant-loop-constant
invariant-loop-constant l = l.found ≡ map (λ c. equation l.side c ∷ []) (take l.constant-index l.among)
