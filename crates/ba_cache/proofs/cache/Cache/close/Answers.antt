use Rattle.std.proofs.Common.{◌∙◌, ℕ, ap, arith, drop, subst, sym}
use Rattle.ba_cache.specs.Passes.{ClosedShelf, IsClosed, IsWhole, ShelfKnown, known_in}
use Rattle.ba_cache.proofs.Places.{first_left, free_read, known_read, more_left, values_on}
use Rattle.ba_cache.proofs.cache.Cache.close.Goals as goal

pub close-requires-clause-all : goal.close-requires-clause-all
close-requires-clause-all c =
    let inv = c.loop-turn.invariant in
    let steps = c.in-Some.ensures.steps in
    let n = c.loop-turn.closed.len in
    let ts = c.args.self.turns in
    let ps = c.args.pass.passes in
    let ps_ok = ps.ok.0 in
    let p8 = c.args.pass.eight in
    let left = inv.passes_left in
    let less = steps.1.1 in
    let turn_is = first_left ts.items n c.in-Some.turn _ (sym inv.turns ∙ steps.0.0) in
    let pass_is = first_left ps.items n c.in-Some.pass _ (sym inv.passes ∙ steps.1.0) in
    let here = known_read ps.items n c.in-Some.pass (omega arith) pass_is in
    let free = free_read 8 ts.items ps.items n c.in-Some.turn c.in-Some.pass c.requires.free.each (omega arith) turn_is pass_is in
    subst IsWhole (sym here) (c.requires.all.each n (omega arith)) ∙ free.of.allowance

pub loop-turn-preserved : goal.loop-turn-preserved
loop-turn-preserved c =
    let inv = c.loop-turn.invariant in
    let steps = c.in-Some.ensures.steps in
    let n = c.loop-turn.closed.len in
    let ts = c.args.self.turns.items in
    let ps = c.args.pass.passes.items in
    let ok = c.loop-turn.closed.ok.0 in
    let more = c.push_reserved.ensures.len in
    let cap = c.push_reserved.ensures.capacity in
    let room = inv.room in
    let t_left = inv.turns_left in
    let p_left = inv.passes_left in
    let t_less = steps.0.1 in
    let p_less = steps.1.1 in
    let ps_ok = c.args.pass.passes.ok.0 in
    let p8 = c.args.pass.eight in
    let here = known_read ps n c.in-Some.pass (omega arith) (first_left ps n c.in-Some.pass _ (sym inv.passes ∙ steps.1.0)) in
    record {
      can = c.in-Some.ensures.goes.keeps;
      finite = tt;
      room = omega arith;
      turns_left = omega arith;
      passes_left = omega arith;
      turns = more_left ts n c.in-Some.turn _ (sym inv.turns ∙ steps.0.0) ∙ ap (λ (k : ℕ). drop k ts) (sym more);
      passes = more_left ps n c.in-Some.pass _ (sym inv.passes ∙ steps.1.0) ∙ ap (λ (k : ℕ). drop k ps) (sym more);
      closed = λ k d low. values_on (λ (j : ℕ) (x : ClosedShelf). IsClosed (known_in ps j) x.0 x.1.items) n c.loop-turn.closed.items c.push_reserved.new.self.items c.close.result inv.closed (omega arith) c.push_reserved.ensures.items
          (subst (λ (v : ShelfKnown). IsClosed v c.close.result.0 c.close.result.1.items) here (record {
            history = c.close.ensures.history;
            numbers_are = c.close.ensures.numbers;
            legal = c.close.result.0.legal;
            own = c.close.ensures.own;
            joined = c.close.ensures.joined;
            distinct = c.close.ensures.distinct;
            whole = c.close.ensures.whole;
          })) k d (omega arith);
    }
