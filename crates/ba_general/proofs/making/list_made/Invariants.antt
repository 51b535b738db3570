use Rattle.std.proofs.Common.{◌≡◌, ◌++◌, drop}
use Rattle.ba_general.specs.Layouts.{counts}
use Rattle.ba_general.specs.Leaving.{made, made_from}
use Rattle.ba_general.proofs.making.list_made.Given as goal

-- what the steps so far make, and then the later ones
abbrev pub invariant-loop-n : goal.invariant-loop-n
invariant-loop-n l = (l.all.items ++ made_from l.problem l.layout.tables.items (drop l.n l.steps) ≡ made l.problem l.steps) × (l.layout.unknowns.items ≡ counts l.problem l.layout.tables.items)
