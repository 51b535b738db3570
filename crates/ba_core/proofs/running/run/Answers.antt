use Rattle.ba_core.proofs.RunLemmas.{at_start, fits_next, goes_on}
use Rattle.ba_kernel.proofs.ReplayLemmas.{given_next}
use Rattle.ba_core.proofs.running.run.Goals as goal

pub loop-event-init : goal.loop-event-init
loop-event-init c = (tt, tt, at_start c.args.core c.new-replies.result.items c.new-replies.ensures.items)

pub apply-requires : goal.apply-requires
apply-requires c =
    let gave = c.into_iter-event-iterator.ensures.into_iter_gives in
    let whole = given_next c.args.events c.into_vec-event-items.result.items c.loop-event.yielded c.into_iter-event-iterator.result c.loop-event.event-iterator c.next.new.self
    c.next.result c.in-Some.event c.into_vec-event-items.ensures gave.0 c.loop-event.yielded_by c.in-Some.is c.next.ensures.steps in
    fits_next c.args.core c.loop-event.core c.args.events c.loop-event.yielded _ c.loop-event.replies.items c.in-Some.event c.loop-event.invariant.2 c.requires whole

pub loop-event-preserved : goal.loop-event-preserved
loop-event-preserved c = (
  tt,
  tt,
  goes_on c.args.core c.loop-event.core c.apply.new.self c.loop-event.yielded c.loop-event.replies.items c.push.new.self.items c.in-Some.event c.in_ok-reply.reply
      c.loop-event.invariant.2 c.in_ok-reply.ensures.step c.in_ok-push.ensures.items,
)
