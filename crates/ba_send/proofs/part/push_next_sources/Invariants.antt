use Rattle.std.proofs.Common.{◌≡◌, ◌++◌, take, string_bytes}
use Rattle.ba_lex.specs.declared.token.Sign.TheVariants.{Comma}
use Rattle.ba_send.specs.Sent.{following, pieces_text, sign, sources_from}
use Rattle.ba_send.proofs.part.push_next_sources.Given as goal

abbrev pub invariant-loop-i : goal.invariant-loop-i
invariant-loop-i l =
    string_bytes l.out ≡ string_bytes l.fn.out ++ pieces_text l.target.database
    (following (sign Comma) (sources_from l.target l.schema 1 (take l.i l.next)))
