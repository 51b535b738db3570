use Rattle.std.proofs.Common.{◌≤◌, subst, sym}
use Rattle.std.proofs.lemmas.Option.{get_or_from_slice_get, slice_get_within}
use Rattle.ba_refute.specs.Counterexamples.{EntryIsShown}
use Rattle.ba_refute.proofs.LoopLemmas.{ended, passed, refused}
use Rattle.ba_refute.proofs.within.entries_are_shown.Goals as goal

pub returns-then-not-shown : goal.returns-then-not-shown
returns-then-not-shown c =
    refused (EntryIsShown c.args.ctx.now c.args.one.now) c.args.trace.now c.loop-i.i c.entry.result.now c.in_ok-shown.shown
    (slice_get_within c.args.trace.now c.loop-i.i c.entry.result.now c.entry.ensures)
    (sym (get_or_from_slice_get c.args.trace.now c.loop-i.i c.entry.result.now c.entry.result.now c.entry.ensures)) c.in_ok-shown.ensures c.if-not-shown.true

pub loop-i-preserved : goal.loop-i-preserved
loop-i-preserved c =
    passed (EntryIsShown c.args.ctx.now c.args.one.now) c.args.trace.now c.loop-i.i c.entry.result.now c.in_ok-shown.shown
    (slice_get_within c.args.trace.now c.loop-i.i c.entry.result.now c.entry.ensures)
    (sym (get_or_from_slice_get c.args.trace.now c.loop-i.i c.entry.result.now c.entry.result.now c.entry.ensures)) c.in_ok-shown.ensures c.if-not-shown.false
    c.loop-i.invariant

pub returns : goal.returns
returns c =
    ended (EntryIsShown c.args.ctx.now c.args.one.now) c.args.trace.now c.loop-i.i (subst (λ n. n ≤ c.loop-i.i) c.len-i-end.ensures c.loop-i-test.false) c.loop-i.invariant
