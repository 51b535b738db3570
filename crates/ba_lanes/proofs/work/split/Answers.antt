use Rattle.std.proofs.Common.{◌≡◌, ◌∙◌, ◌∷◌, [], ap, arith, length, length-append, refl, subst}
use Rattle.ba_lanes.proofs.WorkLemmas.{each_more}
use Rattle.ba_lanes.specs.Serving.{HaveSplit, SeeLoads}
use Rattle.ba_lanes.specs.Working.{IsWork}
use Rattle.ba_lanes.specs.declared.work.Work.{Work}
use Rattle.ba_lanes.proofs.work.split.Goals as goal

pub loop-number-init : goal.loop-number-init
loop-number-init g c = record {
  of = c.requires.of;
  dealt = (c.requires.dealt.0, c.requires.dealt.1, λ k d low. absurd (omega (arith, low)));
  many = ap length c.in_ok-works.ensures.items;
  room = c.in_ok-works.ensures.capacity;
  ready = λ k d low. absurd (omega (arith, low));
}

pub lane_for-requires-clause-dealt : goal.lane_for-requires-clause-dealt
lane_for-requires-clause-dealt g c = let dealt = c.loop-number.invariant.dealt in (dealt.0, dealt.1)

pub push_reserved-requires : goal.push_reserved-requires
push_reserved-requires g c =
    let many = c.loop-number.invariant.many in
    let room = c.loop-number.invariant.room in
    let ok = c.loop-number.works.ok.0 in
    let below = c.loop-number-test.true in
    omega (arith, many, room, ok, below)

pub loop-number-preserved : goal.loop-number-preserved
loop-number-preserved g c =
    let so_far = c.loop-number.invariant in
    let pushed = c.push_reserved.ensures.items in
    let lane = c.in_ok-lane.ensures in
    let loads = so_far.dealt.0 in
    let more = lane.dealt loads so_far.dealt.1 in
    let work : Work g.row.R.Denot g.row.S.Denot = record { rt = c.args.rt; alloc = c.args.alloc; input = c.args.input; service = c.args.service; settle = c.args.settle; lane = c.in_ok-lane.lane } in record {
      of = lane.of;
      dealt = (
        loads,
        more.0,
        each_more (λ k it. SeeLoads loads it.lane.passes) c.loop-number.works.items c.push_reserved.new.self.items c.loop-number.number work so_far.dealt.2 pushed so_far.many more.1,
      );
      many = let many = so_far.many in omega (arith, many, ap length pushed, length-append c.loop-number.works.items (work ∷ []));
      room = let room = so_far.room in let same = c.push_reserved.ensures.capacity in omega (arith, room, same);
      ready = each_more (λ k it. IsWork g.S.Settle.orders c.args.input.now c.args.service.now k it) c.loop-number.works.items c.push_reserved.new.self.items c.loop-number.number work so_far.ready pushed so_far.many
          (record { input_is = refl; service_is = refl; orders_are = c.requires.orders; ready = lane.ready });
    }

pub returns : goal.returns
returns g c =
    let all = c.loop-number.invariant in
    let past = c.loop-number-test.false in
    let end = c.loop-number.auto.number-end in
    let is : c.loop-number.number ≡ c.args.input.now.workers = omega (arith, past, end) in record {
      of = all.of;
      split = record {
        loads = all.dealt.0;
        loaded = all.dealt.1.loaded;
        split = subst (λ n. HaveSplit all.dealt.0 n c.loop-number.passes) is all.dealt.1.split;
        see = λ k d low. all.dealt.2 k d (omega (arith, low, past));
      };
      many = all.many ∙ is;
      ready = λ k d low. all.ready k d (omega (arith, low, past));
    }
