use Rattle.std.proofs.Common.{◌≡◌, map, string_bytes, take}
use Rattle.ba_sql_print.specs.Printed.{sources_from}
use Rattle.ba_sql_print.proofs.part.sources.Given as goal

abbrev pub invariant-loop-place : goal.invariant-loop-place
invariant-loop-place l = map string_bytes l.texts.items ≡ sources_from l.schema 0 (take l.place l.from)
