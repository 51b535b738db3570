use Rattle.std.proofs.Common.{◌∙◌, ◌++◌, List, ℕ, ap, codes, refl, rules, string_bytes, sym}
use Rattle.ba_keys.specs.Literals.{atom_with}
use Rattle.ba_send.specs.Sent.{atom_pieces, word}
use Rattle.ba_send.proofs.GrowLemmas.{grows_all, grows_more, grows_none}
use Rattle.ba_send.proofs.TextLemmas.{and_text}
use Rattle.ba_send.proofs.part.push_next_atoms.Goals as goal

pub loop-atom-init : goal.loop-atom-init
loop-atom-init c = grows_none c.args.database (string_bytes c.args.out.now) (string_bytes c.args.out.now) refl

pub loop-atom-preserved : goal.loop-atom-preserved
loop-atom-preserved c =
    grows_more c.args.database (word (codes "AND")) (atom_pieces c.args.database c.args.schema.now c.args.from.now) (atom_with 0 c.args.values.now)
    c.args.next.now c.loop-atom.atom-index c.atom-item.result (string_bytes c.args.out.now) (string_bytes c.loop-atom.out) (string_bytes c.push_str.new.self)
    (string_bytes c.push_atom.new.out)
    c.loop-atom-test.true c.atom-item.is c.loop-atom.invariant
    (c.in_ok-push_str.ensures.bytes ∙ ap (λ (t : List ℕ). string_bytes c.loop-atom.out ++ t) (sym (and_text c.args.database)))
    c.in_ok-push_atom.ensures

pub returns : goal.returns
returns c =
    grows_all c.args.database (word (codes "AND")) (atom_pieces c.args.database c.args.schema.now c.args.from.now) (atom_with 0 c.args.values.now)
    c.args.next.now c.args.next.now c.loop-atom.atom-index (string_bytes c.args.out.now) (string_bytes c.loop-atom.out)
    refl (search rules) c.loop-atom.invariant
