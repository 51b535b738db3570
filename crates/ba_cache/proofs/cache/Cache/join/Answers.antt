use Rattle.std.proofs.Common.{◌∙◌, ℕ, ap, arith, drop, subst, sym}
use Rattle.std.specs.Iterator.Adapters.{enumerate_count, enumerate_source}
use Rattle.std.specs.Vec.Iter.{into_iter_items}
use Rattle.ba_turn.specs.Passes.{known_by}
use Rattle.ba_cache.specs.Passes.{IsJoined, ShelfKnown, known_in}
use Rattle.ba_cache.proofs.Places.{first_left, free_set, known_read, more_left, rest_on, rest_read, set_on}
use Rattle.ba_cache.proofs.cache.Cache.join.Goals as goal

pub join-requires-clause-opening : goal.join-requires-clause-opening
join-requires-clause-opening c =
    let inv = c.loop-shelf.invariant in
    let n = c.in-Some.shelf in
    let at = c.in-Some.ensures.steps.1 in
    let left = inv.left in
    let less = c.in-Some.ensures.steps.0.1 in
    let passes = c.loop-shelf.pass.passes in
    let ok = passes.ok.0 in
    let eight = c.loop-shelf.pass.eight in
    let here = rest_read c.args.pass.now.passes.items passes.items n c.index_mut.result.now (λ k low. inv.rest k (omega arith)) (omega arith) c.index_mut.ensures.value in
    ap (λ (v : ShelfKnown). v.number) here ∙ c.requires.opening.each n (omega arith)

pub loop-shelf-preserved : goal.loop-shelf-preserved
loop-shelf-preserved c =
    let inv = c.loop-shelf.invariant in
    let steps = c.in-Some.ensures.steps in
    let n = c.in-Some.shelf in
    let at = steps.1 in
    let next = steps.2 in
    let left = inv.left in
    let less = steps.0.1 in
    let passes = c.loop-shelf.pass.passes in
    let turns = c.args.self.now.turns in
    let others = c.args.other.passes in
    let p_ok = passes.ok.0 in
    let t_ok = turns.ok.0 in
    let o_ok = others.ok.0 in
    let p8 = c.loop-shelf.pass.eight in
    let t8 = c.args.self.now.eight in
    let o8 = c.args.other.eight in
    let here = rest_read c.args.pass.now.passes.items passes.items n c.index_mut.result.now (λ k low. inv.rest k (omega arith)) (omega arith) c.index_mut.ensures.value in
    let m = enumerate_count c.loop-shelf.shelf-iterator in
    let rest = into_iter_items (enumerate_source c.next.new.self) in
    let first = sym inv.items ∙ steps.0.0 in
    let other = known_read others.items m c.in-Some.other (omega arith) (first_left others.items m c.in-Some.other rest first) ∙ ap (known_in others.items) (sym at) in
    let q1 = c.join.new.pass in
    let ps0 = c.args.pass.now.passes.items in
    let joined = subst (λ (z : ShelfKnown × ShelfKnown). IsJoined z.0 z.1 (known_by q1)) (λ j. (here j, other j)) (record {
      known = c.join.ensures.known;
      seen = c.join.ensures.seen;
      other = c.join.ensures.other;
      sums = c.join.ensures.sums;
      distinct = c.join.ensures.distinct;
      whole = c.join.ensures.whole;
    }) in
    record {
      can = c.in-Some.ensures.goes.keeps;
      finite = tt;
      left = omega arith;
      items = more_left others.items m c.in-Some.other rest first ∙ ap (λ (k : ℕ). drop k others.items) (sym next);
      free = free_set 8 turns.items passes.items n c.index.result.now q1 inv.free (omega arith) (omega arith) c.index.ensures c.join.ensures.free;
      joined = λ k low. set_on (λ j v. IsJoined (known_in ps0 j) (known_in others.items j) v) n passes.items q1 (λ j below. inv.joined j (omega arith)) (omega arith) joined k (omega arith);
      rest = λ k low. rest_on n ps0 passes.items q1 (λ j below. inv.rest j (omega arith)) k (omega arith);
    }
