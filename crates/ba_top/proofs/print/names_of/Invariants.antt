use Rattle.std.proofs.Common.{◌≡◌, map, take}
use Rattle.ba_top.specs.Text.{printed_by}
use Rattle.ba_top.proofs.print.names_of.Given as goal

-- the names of what the queries so far rest on
abbrev pub invariant-loop-it : goal.invariant-loop-it
invariant-loop-it l = l.names.items ≡ map printed_by (take l.it-index l.by)
