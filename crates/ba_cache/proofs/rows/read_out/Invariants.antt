use Rattle.std.proofs.Common.{◌≡◌, ◌++◌, take}
use Rattle.ba_cache.specs.Rows.{templates_under}
use Rattle.ba_cache.proofs.rows.read_out.Given as goal

-- the templates so far are put behind
abbrev pub invariant-loop-kept : goal.invariant-loop-kept
invariant-loop-kept l = l.all.items ≡ l.initial.all.items ++ templates_under (take l.kept-index l.templates)
