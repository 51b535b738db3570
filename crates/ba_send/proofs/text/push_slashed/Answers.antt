use Rattle.std.proofs.Common.{arith, string_bytes}
use Rattle.ba_send.proofs.FormLemmas.{behind_byte, slash_end, slash_more}
use Rattle.ba_send.proofs.text.push_slashed.Goals as goal

pub loop-before-preserved : goal.loop-before-preserved
loop-before-preserved c = (
  behind_byte 92 c.in-Some.before.now c.in-Some.after.now c.loop-before.rest.now (omega arith) c.loop-before.invariant.0 c.in-Some.ensures.1,
  slash_more (string_bytes c.args.out.now) _ _ _ c.in-Some.before.now c.in-Some.after.now c.loop-before.rest.now c.args.text.now
      c.in_ok-push_doubled.ensures c.in_ok-push_str.ensures.bytes c.in-Some.ensures.0 c.in-Some.ensures.1 c.loop-before.invariant.1,
)

pub returns : goal.returns
returns c =
    slash_end (string_bytes c.args.out.now) _ _ c.loop-before.rest.now c.args.text.now c.in_ok-push_doubled-2.ensures c.in_default.ensures c.loop-before.invariant.1
