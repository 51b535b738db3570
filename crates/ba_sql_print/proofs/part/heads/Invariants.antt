use Rattle.std.proofs.Common.{◌≡◌, map, string_bytes, take}
use Rattle.ba_sql_print.specs.Printed.{operand_text}
use Rattle.ba_sql_print.proofs.part.heads.Given as goal

abbrev pub invariant-loop-x : goal.invariant-loop-x
invariant-loop-x l = map string_bytes l.texts.items ≡ map (operand_text l.schema l.params l.from) (take l.x-index l.head)
