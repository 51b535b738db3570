use Rattle.std.proofs.Common.{◌≡◌, take}
use Rattle.ba_general.specs.Layouts.{counts, put_cases, tables_on}
use Rattle.ba_general.proofs.layout.Layout.put_all.Given as goal

-- the cases so far are put
abbrev pub invariant-loop-n : goal.invariant-loop-n
invariant-loop-n l = (l.self.tables.items ≡ put_cases l.fn.self.tables.items l.branch (tables_on l.fn.self.tables.items l.branch) (take l.n l.cases.items)) × (l.self.unknowns.items ≡ counts l.problem l.self.tables.items)
