use Rattle.std.proofs.Common.{◌≡◌, ◌++◌}
use Rattle.ba_cache.specs.Rows.{templates_in}
use Rattle.ba_cache.proofs.rows.templates.Given as goal

-- the templates of the rows so far are read out, and those of the others are left
abbrev pub invariant-loop-kept : goal.invariant-loop-kept
invariant-loop-kept l = l.all.items ++ templates_in l.kept-iterator ≡ templates_in l.rows.entries
