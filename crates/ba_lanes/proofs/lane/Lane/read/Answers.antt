use Rattle.std.proofs.Common.{◌≡◌, ◌<◌, List, [], Some, arith, length, refl, slice_get, slice_set, subst, sym}
use Rattle.std.proofs.lemmas.Option.{slice_get_within}
use Rattle.ba_model.specs.Fit.{KeyFits}
use Rattle.ba_session.specs.Asking.{IsRequestOf, effort_in}
use Rattle.ba_session.specs.KeyReads.{KeyReads, LetsThrough, MakesAll}
use Rattle.ba_keys.specs.Literals.{key_queries}
use Rattle.ba_session.specs.Passing.{ShelfCalls}
use Rattle.ba_lanes.specs.Legal.{read_as}
use Rattle.ba_lanes.proofs.LaneLemmas.{checked_of, lost_there, read_of, read_room, set_there, takes_read, takes_unread, there}
use Rattle.ba_lanes.proofs.lane.Lane.read.Goals as goal

pub get-cache_key-requires : goal.get-cache_key-requires
get-cache_key-requires g c =
    let can = c.requires.can [] in
    subst (λ p. c.args.key < length p.keys) (sym c.deref.ensures) (slice_get_within c.args.input.now.policy.keys c.args.key can.1.comes.1.0 can.1.comes.1.1)

pub index_mut-requires : goal.index_mut-requires
index_mut-requires g c =
    let low = (c.requires.can []).1.comes.0 in
    let ok = c.args.self.now.requests.ok.0 in
    omega (arith, low, ok)

pub read-reply-requires-clause-policy : goal.read-reply-requires-clause-policy
read-reply-requires-clause-policy g c = checked_of c.args.input.now c.args.service.now.policy c.requires.input c.requires.policy

pub read-reply-requires-clause-asker : goal.read-reply-requires-clause-asker
read-reply-requires-clause-asker g c =
    let can = (c.requires.can []).1 in
    let at = there c.args.self.now.requests.items c.args.request c.index_mut.result.now c.in-Some.asker can.comes.0 c.index_mut.ensures.value c.in-Some.is in
    subst (λ p. IsRequestOf p c.in-Some.asker) (sym c.requires.policy) (can.askers.each c.args.request c.in-Some.asker at)

pub read-reply-requires-clause-key : goal.read-reply-requires-clause-key
read-reply-requires-clause-key g c =
    let can = c.requires.can [] in
    let key = c.get-cache_key.result.now in
    let it = read_of c.args.input.now c.requires.input _ c.args.request [] c.args.key c.args.arguments.now can.0 key can.1.comes (subst (λ p. slice_get p.keys c.args.key ≡ Some c.get-cache_key.result.now) c.deref.ensures c.get-cache_key.ensures) in
    subst (λ p. KeyFits p key) (sym c.requires.policy) it.fits

pub read-reply-requires-clause-arguments : goal.read-reply-requires-clause-arguments
read-reply-requires-clause-arguments g c =
    let can = c.requires.can [] in
    (read_of c.args.input.now c.requires.input _ c.args.request [] c.args.key c.args.arguments.now can.0 c.get-cache_key.result.now can.1.comes (subst (λ p. slice_get p.keys c.args.key ≡ Some c.get-cache_key.result.now) c.deref.ensures c.get-cache_key.ensures)).arguments

pub read-reply-requires-clause-of : goal.read-reply-requires-clause-of
read-reply-requires-clause-of g c = (c.requires.can []).1.of

pub read-reply-requires-clause-room : goal.read-reply-requires-clause-room
read-reply-requires-clause-room g c =
    let can = c.requires.can [] in
    let it = read_of c.args.input.now c.requires.input _ c.args.request [] c.args.key c.args.arguments.now can.0 c.get-cache_key.result.now can.1.comes (subst (λ p. slice_get p.keys c.args.key ≡ Some c.get-cache_key.result.now) c.deref.ensures c.get-cache_key.ensures) in
    read_room c.args.request [] c.args.key c.args.arguments.now can.0 _ c.args.self.now.passes can.1.can it.many

pub returns-in-Some : goal.returns-in-Some
returns-in-Some g c name questions =
    let can = (c.requires.can []).1 in
    let input = c.args.input.now in
    let old = c.args.self.now in
    let asker = c.in-Some.asker in
    let key = c.get-cache_key.result.now in
    let place = c.index_mut.result.now in
    let args = c.args.arguments.now in
    let reply = c.read-reply.result in
    let later = c.read-reply.new.passes in
    let at = there old.requests.items c.args.request place asker can.comes.0 c.index_mut.ensures.value c.in-Some.is in
    let effort = effort_in (g.S.Settle.orders c.args.settle.now) input.budget in
    let of_policy = subst (λ p. (calls : List ShelfCalls) × KeyReads p asker effort (key_queries p key args) calls reply × MakesAll calls old.passes later) c.requires.policy c.read-reply.ensures.reads in
    let reads = subst (λ n. (calls : List ShelfCalls) × KeyReads input.policy asker (effort_in n input.budget) (key_queries input.policy key args) calls reply × MakesAll calls old.passes later) c.requires.orders of_policy in
    let through = subst (λ p. LetsThrough p asker reply) c.requires.policy c.read-reply.ensures.through in
    let kept = subst (λ z. slice_set old.requests.items c.args.request z ≡ old.requests.items) c.in-Some.is (set_there old.requests.items c.args.request place can.comes.0 c.index_mut.ensures.value) in
    let later = subst (λ a. slice_set old.requests.items c.args.request (Some a) ≡ old.requests.items) (sym c.read-reply.ensures.request) kept in
    takes_read input c.args.service.now old _ c.read-reply.ensures.of refl refl c.args.request name c.args.key args questions asker key reply at (subst (λ p. slice_get p.keys c.args.key ≡ Some c.get-cache_key.result.now) c.deref.ensures c.get-cache_key.ensures)
    later reads through c.read_as.result (subst (λ a. c.read_as.result ≡ read_as c.args.request a.version c.args.key reply) c.read-reply.ensures.request c.read_as.ensures)

pub returns-in-None : goal.returns-in-None
returns-in-None g c name questions =
    let can = (c.requires.can []).1 in
    let old = c.args.self.now in
    let place = c.index_mut.result.now in
    takes_unread c.args.input.now c.args.service.now old _ can.of refl refl c.args.request name c.args.key c.args.arguments.now questions (lost_there old.requests.items c.args.request place can.comes.0 c.index_mut.ensures.value c.in-None.is)
    (set_there old.requests.items c.args.request place can.comes.0 c.index_mut.ensures.value) refl c.unserved.result c.unserved.ensures
