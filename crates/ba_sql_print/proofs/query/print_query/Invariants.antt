use Rattle.std.proofs.Common.{◌≡◌, map, string_bytes, take}
use Rattle.ba_sql_print.specs.Printed.{part_text}
use Rattle.ba_sql_print.proofs.query.print_query.Given as goal

abbrev pub invariant-loop-x : goal.invariant-loop-x
invariant-loop-x l = map string_bytes l.texts.items ≡ map (part_text l.schema l.params) (take l.x-index l.query.parts)
