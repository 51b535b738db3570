use Rattle.std.proofs.Common.{◌≡◌, ◌++◌, codes, map, take, string_bytes}
use Rattle.ba_keys.specs.Literals.{atom_with}
use Rattle.ba_send.specs.Sent.{atom_pieces, following, pieces_text, word}
use Rattle.ba_send.proofs.part.push_next_atoms.Given as goal

abbrev pub invariant-loop-atom : goal.invariant-loop-atom
invariant-loop-atom l =
    string_bytes l.out ≡ string_bytes l.fn.out ++ pieces_text l.database
    (following (word (codes "AND")) (map (atom_pieces l.database l.schema l.from) (map (atom_with 0 l.values) (take l.atom-index l.next))))
