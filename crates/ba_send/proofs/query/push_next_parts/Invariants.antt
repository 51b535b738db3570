use Rattle.std.proofs.Common.{◌≡◌, ◌++◌, codes, map, take, string_bytes}
use Rattle.ba_keys.specs.Literals.{part_with}
use Rattle.ba_send.specs.Sent.{following, part_pieces, pieces_text, word}
use Rattle.ba_send.proofs.query.push_next_parts.Given as goal

abbrev pub invariant-loop-part : goal.invariant-loop-part
invariant-loop-part l =
    string_bytes l.out ≡ string_bytes l.fn.out ++ pieces_text l.target.database
    (following (word (codes "UNION")) (map (part_pieces l.target l.schema l.several) (map (part_with 0 l.values) (take l.part-index l.next))))
