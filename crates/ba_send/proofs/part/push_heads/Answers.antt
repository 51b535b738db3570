use Rattle.std.proofs.Common.{string_bytes}
use Rattle.ba_keys.specs.Literals.{operand_with}
use Rattle.ba_lex.specs.declared.token.Sign.TheVariants.{Comma}
use Rattle.ba_send.specs.Sent.{heads_pieces, operand_pieces, sign}
use Rattle.ba_send.proofs.GrowLemmas.{grows_empty, grows_list}
use Rattle.ba_send.proofs.part.push_heads.Goals as goal

pub returns-in-empty : goal.returns-in-empty
unfolding heads_pieces
returns-in-empty c =
    grows_empty c.args.database (sign Comma) (operand_pieces c.args.database c.args.schema.now c.args.from.now c.args.exact) (operand_with 0 c.args.values.now)
    c.args.head.now (string_bytes c.args.out.now) c.in-empty.len_below

pub returns-in_ok-push_next_heads-in-len1-up : goal.returns-in_ok-push_next_heads-in-len1-up
unfolding heads_pieces
returns-in_ok-push_next_heads-in-len1-up c =
    grows_list c.args.database (sign Comma) (operand_pieces c.args.database c.args.schema.now c.args.from.now c.args.exact) (operand_with 0 c.args.values.now)
    c.args.head.now c.first-item.result _ _ _ c.in-len1-up.len_at_least c.first-item.is
    c.in_ok-push_operand-in-len1-up.ensures c.in_ok-push_next_heads-in-len1-up.ensures
