use Rattle.std.proofs.Common.{length, nat_lt, refl, string_bytes}
use Rattle.ba_send.proofs.PrintedLemmas.{printed_more, printed_none}
use Rattle.ba_send.proofs.query.printed.Goals as goal

pub returns-in-empty : goal.returns-in-empty
returns-in-empty c =
    printed_none c.args.target.now c.args.schema.now c.args.context.now c.args.query.now c.as_slice-parts.result.now (string_bytes c.new-out.result) c.as_slice-parts.ensures
    c.in-empty.len_below c.new-out.ensures.bytes

pub returns-in_ok-push_next_parts-in-len1-up : goal.returns-in_ok-push_next_parts-in-len1-up
returns-in_ok-push_next_parts-in-len1-up c =
    printed_more c.args.target.now c.args.schema.now c.args.context.now c.args.query.now c.as_slice-parts.result.now c.as_slice-values.result.now (nat_lt 1 (length c.as_slice-parts.result.now)) c.first-item.result
    (string_bytes c.new-out.result) (string_bytes c.push_str.new.self) (string_bytes c.push_selected.new.out)
    (string_bytes c.push_next_parts.new.out)
    c.as_slice-parts.ensures c.as_slice-values.ensures refl c.in-len1-up.len_at_least c.first-item.is c.new-out.ensures.bytes
    c.in_ok-push_str-in-len1-up.ensures.bytes c.in_ok-push_selected-in-len1-up.ensures c.in_ok-push_next_parts-in-len1-up.ensures
