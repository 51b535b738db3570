use Rattle.std.proofs.Common.{◌∙◌, ◌++◌, List, ℕ, ap, codes, refl, rules, string_bytes, sym}
use Rattle.ba_keys.specs.Literals.{part_with}
use Rattle.ba_send.specs.Sent.{part_pieces, word}
use Rattle.ba_send.proofs.GrowLemmas.{grows_all, grows_more, grows_none}
use Rattle.ba_send.proofs.TextLemmas.{select_more, union_text}
use Rattle.ba_send.proofs.query.push_next_parts.Goals as goal

pub loop-part-init : goal.loop-part-init
loop-part-init c = grows_none c.args.target.now.database (string_bytes c.args.out.now) (string_bytes c.args.out.now) refl

pub loop-part-preserved : goal.loop-part-preserved
loop-part-preserved c =
    grows_more c.args.target.now.database (word (codes "UNION")) (part_pieces c.args.target.now c.args.schema.now c.args.several) (part_with 0 c.args.values.now)
    c.args.next.now c.loop-part.part-index c.part-item.result (string_bytes c.args.out.now) (string_bytes c.loop-part.out) (string_bytes c.push_str.new.self)
    (string_bytes c.push_selected.new.out)
    c.loop-part-test.true c.part-item.is c.loop-part.invariant
    (c.in_ok-push_str.ensures.bytes ∙ ap (λ (t : List ℕ). string_bytes c.loop-part.out ++ t) (sym (union_text c.args.target.now.database)))
    (select_more c.args.target.now.database (string_bytes c.push_str.new.self) (string_bytes c.push_str-in-loop-part.new.self) (string_bytes c.push_selected.new.out) _
    c.in_ok-push_str-2.ensures.bytes c.in_ok-push_selected.ensures)

pub returns : goal.returns
returns c =
    grows_all c.args.target.now.database (word (codes "UNION")) (part_pieces c.args.target.now c.args.schema.now c.args.several) (part_with 0 c.args.values.now)
    c.args.next.now c.args.next.now c.loop-part.part-index (string_bytes c.args.out.now) (string_bytes c.loop-part.out)
    refl (search rules) c.loop-part.invariant
