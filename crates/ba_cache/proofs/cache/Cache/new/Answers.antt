use Rattle.std.proofs.Common.{arith}
use Rattle.ba_cache.specs.Passes.{IsOpened}
use Rattle.ba_cache.proofs.Places.{free_push_both, push_on}
use Rattle.ba_cache.proofs.cache.Cache.new.Goals as goal

pub loop-preserved : goal.loop-preserved
loop-preserved c =
    let inv = c.loop.invariant in
    let n = c.loop.counter in
    let ts = c.loop.turns in
    let ps = c.loop.passes in
    let ts_ok = ts.ok.0 in
    let ps_ok = ps.ok.0 in
    let t_made = inv.turns in
    let p_made = inv.passes in
    let t_more = c.push_reserved.ensures.items in
    let p_more = c.push_reserved-in-loop.ensures.items in
    let t_len = c.push_reserved.ensures.len in
    let p_len = c.push_reserved-in-loop.ensures.len in
    let t_cap = c.push_reserved.ensures.capacity in
    let p_cap = c.push_reserved-in-loop.ensures.capacity in
    let t_room = inv.turns_room in
    let p_room = inv.passes_room in
    record {
      turns = omega arith;
      passes = omega arith;
      turns_room = omega arith;
      passes_room = omega arith;
      free = free_push_both n ts.items c.push_reserved.new.self.items ps.items c.push_reserved-in-loop.new.self.items c.in_ok-turn.turn c.in_ok-turn.pass inv.free (omega arith) (omega arith) t_more p_more c.in_ok-turn.ensures.free;
      known = push_on (λ k. IsOpened c.args.allowance) n ps.items c.push_reserved-in-loop.new.self.items c.in_ok-turn.pass inv.known (omega arith) p_more c.in_ok-turn.ensures.known;
    }
