use Rattle.std.proofs.Common.{arith, string_bytes}
use Rattle.ba_send.proofs.FormLemmas.{digit_pushed, hex_more, hex_none}
use Rattle.ba_send.proofs.text.push_hex.Goals as goal

pub loop-byte-init : goal.loop-byte-init
loop-byte-init c = hex_none (string_bytes c.args.out.now)

pub loop-byte-preserved : goal.loop-byte-preserved
loop-byte-preserved c =
    hex_more c.args.bytes.now c.loop-byte.byte-index 0 (string_bytes c.args.out.now) (string_bytes c.loop-byte.out) (string_bytes c.push.new.self) _
    c.loop-byte-test.true c.loop-byte.invariant
    (digit_pushed _ _ c.hex_digit.result _ _ (omega (arith, c.type_inv.bytes c.loop-byte.byte-index)) c.hex_digit.ensures c.in_ok-push.ensures.bytes c.in_ok-push.ensures.ascii)
    (digit_pushed _ _ c.hex_digit-in-loop-byte.result _ _ (omega (arith)) c.hex_digit-in-loop-byte.ensures c.in_ok-push-2.ensures.bytes c.in_ok-push-2.ensures.ascii)
