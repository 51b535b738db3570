use Rattle.std.proofs.Common.{◌≡◌, ◌∙◌, ◌+◌, ◌∷◌, [], add-one, ap, arith, drop, length, length-append, subst, sym}
use Rattle.std.specs.Vec.Iter.{into_iter_items}
use Rattle.ba_lanes.proofs.HistoryLemmas.{are_opening}
use Rattle.ba_lanes.proofs.WorkLemmas.{Gathering, gathered, gathering_more, gathering_none, next_of, none_of}
use Rattle.ba_lanes.proofs.work.join.Goals as goal

pub loop-work-init : goal.loop-work-init
loop-work-init g c =
    let none = c.in_ok-queues.ensures.items in
    let works = c.args.works.items in
    let long = c.len.ensures in
    let gives : into_iter_items c.into_iter-work-iterator.result ≡ works = c.into_iter-work-iterator.ensures.into_iter_gives.0 in
    let room = c.in_ok-queues.ensures.capacity in
    let ok = c.args.works.ok.0 in record {
      can = tt;
      finite = tt;
      gathering = subst (λ z. Gathering (λ it. it.items) c.args.input.now c.args.service.now works (length z) z c.args.passes.now) (sym none)
          (gathering_none (λ it. it.items) c.args.input.now c.args.service.now works c.args.passes.now c.requires.some c.requires.many c.requires.of c.requires.split c.requires.done);
      left = gives ∙ sym (ap (λ z. drop (length z) works) none);
      room = omega (arith, long, room, ok);
    }

pub join-requires-clause-opening : goal.join-requires-clause-opening
join-requires-clause-opening g c =
    let so_far = c.loop-work.invariant.gathering in
    are_opening so_far.loads c.args.input.now.workers (length c.loop-work.queues.items) so_far.done c.loop-work.passes so_far.joined

pub push_reserved-requires : goal.push_reserved-requires
push_reserved-requires g c =
    let step = next_of c.args.works.items (length c.loop-work.queues.items) c.in-Some.work _ (sym c.loop-work.invariant.left ∙ c.in-Some.ensures.steps.0) in
    let low = step.0 in
    let room = c.loop-work.invariant.room in
    let ok = c.loop-work.queues.ok.0 in
    omega (arith, low, room, ok)

pub loop-work-preserved : goal.loop-work-preserved
loop-work-preserved g c =
    let so_far = c.loop-work.invariant in
    let input = c.args.input.now in
    let works = c.args.works.items in
    let queues = c.loop-work.queues.items in
    let more = c.push_reserved.new.self.items in
    let n = length queues in
    let step = next_of works n c.in-Some.work _ (sym so_far.left ∙ c.in-Some.ensures.steps.0) in
    let low = step.0 in
    let many = c.requires.many in
    let pushed = c.push_reserved.ensures.items in
    let long : length more ≡ n + 1 = omega (arith, ap length pushed, length-append queues (c.from_vec.result ∷ [])) in
    let room = so_far.room in
    let same = c.push_reserved.ensures.capacity in record {
      can = tt;
      finite = tt;
      gathering = subst (λ k. Gathering (λ it. it.items) input c.args.service.now works k more c.join.new.passes) (sym long)
          (gathering_more (λ it. it.items) input c.args.service.now works n queues more c.loop-work.passes c.join.new.passes c.in-Some.work c.from_vec.result (omega (arith, low, many)) step.1 so_far.gathering
          c.join.ensures.joined c.join.ensures.of c.from_vec.ensures.items pushed);
      left = step.2 ∙ ap (λ k. drop k works) (sym (add-one n) ∙ sym long);
      room = omega (arith, room, same);
    }

pub returns-clause-gathered : goal.returns-clause-gathered
returns-clause-gathered g c = λ d.
    let so_far = c.loop-work.invariant in
    let works = c.args.works.items in
    let n = length c.loop-work.queues.items in
    let none : c.loop-work.work-iterator.rest.len ≡ 0 = c.in-None.ensures.steps.0 in
    let ok = c.loop-work.work-iterator.rest.ok.0 in
    let left : length c.loop-work.work-iterator.rest.items ≡ length (drop n works) = ap length so_far.left in
    let past = none_of works n (omega (arith, none, ok, left)) in
    let many = c.requires.many in
    gathered (λ it. it.items) c.args.input.now c.args.service.now works n c.loop-work.queues.items c.loop-work.passes d many c.requires.some (omega (arith, past, many)) so_far.gathering
