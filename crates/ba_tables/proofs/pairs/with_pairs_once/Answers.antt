use Rattle.std.proofs.Common.{arith}
use Rattle.ba_tables.proofs.PairLemmas.{no_pairs_yet, pair_again, pair_new, pairs_gathered}
use Rattle.ba_tables.proofs.pairs.with_pairs_once.Goals as goal
use Rattle.ba_tables.proofs.pairs.with_pairs_once.Goals.{then-branch+in_ok-push+in_ok-push-2, else-branch}

pub loop-i-init : goal.loop-i-init
loop-i-init c = rw (c.new-columns.ensures, c.new-target_columns.ensures) (no_pairs_yet c.args.link.now c.new-seen.result c.new-seen.ensures.empty)

pub loop-i-preserved : goal.loop-i-preserved
loop-i-preserved c =
    elim c.if-branch.branch [
      | then-branch+in_ok-push+in_ok-push-2 w ↦
          rw (w.columns-is, w.target_columns-is, w.in_ok-push.ensures.ok, w.in_ok-push-2.ensures.ok)
          (pair_new c.args.link.now c.loop-i.i c.get.result.now c.get-in-loop-i.result.now c.loop-i.seen c.insert.new.self c.loop-i.columns c.loop-i.target_columns c.in_ok-insert.field-0 c.loop-i.invariant c.get.ensures c.get-in-loop-i.ensures c.in_ok-insert.ensures.added w.if-branch.true c.in_ok-insert.ensures.updates.0)
      | else-branch w ↦
          rw (w.columns-is, w.target_columns-is)
          (pair_again c.args.link.now c.loop-i.i c.get.result.now c.get-in-loop-i.result.now c.loop-i.seen c.insert.new.self c.loop-i.columns c.loop-i.target_columns c.in_ok-insert.field-0 c.loop-i.invariant c.get.ensures c.get-in-loop-i.ensures c.in_ok-insert.ensures.added w.if-branch.false c.in_ok-insert.ensures.updates.0)
    ]

pub returns : goal.returns
returns c =
    let a = c.len.ensures in
    let b = c.len-2.ensures in
    let even = c.if-len.false in
    let all = c.len-i-end.ensures in
    pairs_gathered c.args.link.now c.loop-i.i c.loop-i.seen c.loop-i.columns c.loop-i.target_columns c.loop-i.invariant (omega (arith, all, c.loop-i-test.false)) (omega (arith, a, b, even))
