use Rattle.std.proofs.Common.{[], arith, refl, subst, sym}
use Rattle.ba_session.specs.Asking.{IsRequestOf, Replies, effort_in}
use Rattle.ba_session.specs.Passing.{Makes, ShelfCalls}
use Rattle.ba_lanes.proofs.LaneLemmas.{ask_room, checked_of, lost_there, set_there, takes_asked, takes_lost, there}
use Rattle.ba_lanes.proofs.lane.Lane.ask.Goals as goal

pub index_mut-requires : goal.index_mut-requires
index_mut-requires g c =
    let low = (c.requires.can []).comes in
    let ok = c.args.self.now.requests.ok.0 in
    omega (arith, low, ok)

pub ask-reply-requires-clause-policy : goal.ask-reply-requires-clause-policy
ask-reply-requires-clause-policy g c = checked_of c.args.input.now c.args.service.now.policy c.requires.input c.requires.policy

pub ask-reply-requires-clause-asker : goal.ask-reply-requires-clause-asker
ask-reply-requires-clause-asker g c =
    let can = c.requires.can [] in
    let at = there c.args.self.now.requests.items c.args.number c.index_mut.result.now c.in-Some.asker can.comes c.index_mut.ensures.value c.in-Some.is in
    subst (λ p. IsRequestOf p c.in-Some.asker) (sym c.requires.policy) (can.askers.each c.args.number c.in-Some.asker at)

pub ask-reply-requires-clause-of : goal.ask-reply-requires-clause-of
ask-reply-requires-clause-of g c = (c.requires.can []).of

pub ask-reply-requires-clause-room : goal.ask-reply-requires-clause-room
ask-reply-requires-clause-room g c = ask_room c.args.number [] c.args.text.now c.args.self.now.passes (c.requires.can []).can

pub returns-in-Some : goal.returns-in-Some
returns-in-Some g c name =
    let can = c.requires.can [] in
    let input = c.args.input.now in
    let old = c.args.self.now in
    let asker = c.in-Some.asker in
    let next = c.ask-reply.new.self in
    let at = there old.requests.items c.args.number c.index_mut.result.now asker can.comes c.index_mut.ensures.value c.in-Some.is in
    let may = subst (λ p. IsRequestOf p next) c.requires.policy c.ask-reply.ensures.asker in
    let effort = effort_in (g.S.Settle.orders c.args.settle.now) input.budget in
    let of_text = subst (λ t. (calls : ShelfCalls) × Replies c.args.service.now.policy asker effort t calls c.ask-reply.result × Makes calls old.passes c.ask-reply.new.passes) c.as_str.ensures
    c.ask-reply.ensures.replies in
    let of_policy = subst (λ p. (calls : ShelfCalls) × Replies p asker effort c.args.text.now calls c.ask-reply.result × Makes calls old.passes c.ask-reply.new.passes) c.requires.policy of_text in
    let replies = subst (λ n. (calls : ShelfCalls) × Replies input.policy asker (effort_in n input.budget) c.args.text.now calls c.ask-reply.result × Makes calls old.passes c.ask-reply.new.passes) c.requires.orders of_policy in
    takes_asked input c.args.service.now old _ c.ask-reply.ensures.of refl refl c.args.number name c.args.text.now asker next c.ask-reply.result at may c.ask-reply.ensures.request refl replies
    c.asked.result c.asked.ensures

pub returns-in-None : goal.returns-in-None
returns-in-None g c name =
    let can = c.requires.can [] in
    let old = c.args.self.now in
    let place = c.index_mut.result.now in
    takes_lost c.args.input.now c.args.service.now old _ can.of refl refl c.args.number name c.args.text.now (lost_there old.requests.items c.args.number place can.comes c.index_mut.ensures.value c.in-None.is)
    (set_there old.requests.items c.args.number place can.comes c.index_mut.ensures.value) refl c.unserved.result c.unserved.ensures
