use Rattle.std.proofs.Common.{◌≡◌, take}
use Rattle.ba_sql_query.specs.Parts.{parts_of}
use Rattle.ba_sql_query.proofs.expand.parts_of.Given as goal

abbrev pub invariant-loop-select : goal.invariant-loop-select
invariant-loop-select l = l.found.items ≡ parts_of (take l.select-index l.selects)
