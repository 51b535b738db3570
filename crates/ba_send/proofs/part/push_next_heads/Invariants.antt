use Rattle.std.proofs.Common.{◌≡◌, ◌++◌, map, take, string_bytes}
use Rattle.ba_keys.specs.Literals.{operand_with}
use Rattle.ba_lex.specs.declared.token.Sign.TheVariants.{Comma}
use Rattle.ba_send.specs.Sent.{following, operand_pieces, pieces_text, sign}
use Rattle.ba_send.proofs.part.push_next_heads.Given as goal

abbrev pub invariant-loop-operand : goal.invariant-loop-operand
invariant-loop-operand l =
    string_bytes l.out ≡ string_bytes l.fn.out ++ pieces_text l.database
    (following (sign Comma) (map (operand_pieces l.database l.schema l.from l.exact) (map (operand_with 0 l.values) (take l.operand-index l.next))))
