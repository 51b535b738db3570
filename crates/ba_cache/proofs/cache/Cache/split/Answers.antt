use Rattle.std.proofs.Common.{◌≡◌, ◌∙◌, List, ap, arith, get_or, subst, sym}
use Rattle.ba_turn.specs.Passes.{known_by}
use Rattle.ba_cache.specs.Passes.{CanSplit, IsSplit, ShelfKnown, ShelfTurn, known_in}
use Rattle.ba_cache.proofs.Places.{free_push, free_set, rest_on, rest_read, set_and_push_on}
use Rattle.ba_cache.proofs.cache.Cache.split.Goals as goal

pub split-new-requires-clause-opening : goal.split-new-requires-clause-opening
split-new-requires-clause-opening c =
    let test = c.loop-shelf-test.true in
    let turns = c.deref-turn-items.ensures.len in
    let t8 = c.args.self.now.eight in
    let qs = c.loop-shelf.pass.passes in
    let qs_ok = qs.ok.0 in
    let q8 = c.loop-shelf.pass.eight in
    let here = rest_read c.args.pass.now.passes.items qs.items c.loop-shelf.shelf c.index_mut.result.now c.loop-shelf.invariant.rest (omega arith) c.index_mut.ensures.value in
    ap (λ (v : ShelfKnown). v.number) here ∙ (c.requires.can.each c.loop-shelf.shelf (omega arith)).opening

pub split-new-requires-clause-splits : goal.split-new-requires-clause-splits
split-new-requires-clause-splits c =
    let test = c.loop-shelf-test.true in
    let turns = c.deref-turn-items.ensures.len in
    let t8 = c.args.self.now.eight in
    let qs = c.loop-shelf.pass.passes in
    let qs_ok = qs.ok.0 in
    let q8 = c.loop-shelf.pass.eight in
    let here = rest_read c.args.pass.now.passes.items qs.items c.loop-shelf.shelf c.index_mut.result.now c.loop-shelf.invariant.rest (omega arith) c.index_mut.ensures.value in
    (subst (CanSplit c.args.allowance) (sym here) (c.requires.can.each c.loop-shelf.shelf (omega arith))).splits

pub split-new-requires-clause-left : goal.split-new-requires-clause-left
split-new-requires-clause-left c =
    let test = c.loop-shelf-test.true in
    let turns = c.deref-turn-items.ensures.len in
    let t8 = c.args.self.now.eight in
    let qs = c.loop-shelf.pass.passes in
    let qs_ok = qs.ok.0 in
    let q8 = c.loop-shelf.pass.eight in
    let here = rest_read c.args.pass.now.passes.items qs.items c.loop-shelf.shelf c.index_mut.result.now c.loop-shelf.invariant.rest (omega arith) c.index_mut.ensures.value in
    (subst (CanSplit c.args.allowance) (sym here) (c.requires.can.each c.loop-shelf.shelf (omega arith))).left

pub loop-shelf-preserved : goal.loop-shelf-preserved
loop-shelf-preserved c =
    let inv = c.loop-shelf.invariant in
    let i = c.loop-shelf.shelf in
    let ts = c.args.self.now.turns in
    let ps0 = c.args.pass.now.passes.items in
    let qs = c.loop-shelf.pass.passes in
    let rs = c.loop-shelf.passes in
    let turn = c.turn-item.result in
    let q1 = c.split-new.new.pass in
    let r1 = c.split-new.result in
    let test = c.loop-shelf-test.true in
    let turns = c.deref-turn-items.ensures.len in
    let t8 = c.args.self.now.eight in
    let q8 = c.loop-shelf.pass.eight in
    let ts_ok = ts.ok.0 in
    let qs_ok = qs.ok.0 in
    let rs_ok = rs.ok.0 in
    let made = inv.made in
    let room = inv.room in
    let more_len = c.push_reserved.ensures.len in
    let cap = c.push_reserved.ensures.capacity in
    let here = rest_read ps0 qs.items i c.index_mut.result.now inv.rest (omega arith) c.index_mut.ensures.value in
    let turn_is : turn ≡ get_or ts.items i turn = c.turn-item.is ∙ ap (λ (l : List ShelfTurn). get_or l i turn) c.deref-turn-items.ensures.value in
    let cut = subst (λ (v : ShelfKnown). IsSplit c.args.allowance v (known_by q1) (known_by r1)) here (record { known = c.split-new.ensures.known; other_known = c.split-new.ensures.new_known }) in
    record {
      made = omega arith;
      room = omega arith;
      free = free_set 8 ts.items qs.items i turn q1 inv.free (omega arith) (omega arith) turn_is c.split-new.ensures.free;
      new = free_push i ts.items rs.items c.push_reserved.new.self.items turn r1 inv.new (omega arith) (omega arith) c.push_reserved.ensures.items turn_is c.split-new.ensures.new;
      split = set_and_push_on (λ k v w. IsSplit c.args.allowance (known_in ps0 k) v w) i qs.items rs.items c.push_reserved.new.self.items q1 r1 inv.split (omega arith) (omega arith) c.push_reserved.ensures.items cut;
      rest = rest_on i ps0 qs.items q1 inv.rest;
    }
