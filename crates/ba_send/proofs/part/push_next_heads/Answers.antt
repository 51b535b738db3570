use Rattle.std.proofs.Common.{◌∙◌, ◌++◌, List, ℕ, ap, refl, rules, string_bytes, sym}
use Rattle.ba_keys.specs.Literals.{operand_with}
use Rattle.ba_lex.specs.declared.token.Sign.TheVariants.{Comma}
use Rattle.ba_send.specs.Sent.{operand_pieces, sign}
use Rattle.ba_send.proofs.GrowLemmas.{grows_all, grows_more, grows_none}
use Rattle.ba_send.proofs.TextLemmas.{comma_text}
use Rattle.ba_send.proofs.part.push_next_heads.Goals as goal

pub loop-operand-init : goal.loop-operand-init
loop-operand-init c = grows_none c.args.database (string_bytes c.args.out.now) (string_bytes c.args.out.now) refl

pub loop-operand-preserved : goal.loop-operand-preserved
loop-operand-preserved c =
    grows_more c.args.database (sign Comma) (operand_pieces c.args.database c.args.schema.now c.args.from.now c.args.exact) (operand_with 0 c.args.values.now)
    c.args.next.now c.loop-operand.operand-index c.operand-item.result (string_bytes c.args.out.now) (string_bytes c.loop-operand.out) (string_bytes c.push_str.new.self)
    (string_bytes c.push_operand.new.out)
    c.loop-operand-test.true c.operand-item.is c.loop-operand.invariant
    (c.in_ok-push_str.ensures.bytes ∙ ap (λ (t : List ℕ). string_bytes c.loop-operand.out ++ t) (sym (comma_text c.args.database)))
    c.in_ok-push_operand.ensures

pub returns : goal.returns
returns c =
    grows_all c.args.database (sign Comma) (operand_pieces c.args.database c.args.schema.now c.args.from.now c.args.exact) (operand_with 0 c.args.values.now)
    c.args.next.now c.args.next.now c.loop-operand.operand-index (string_bytes c.args.out.now) (string_bytes c.loop-operand.out)
    refl (search rules) c.loop-operand.invariant
