use Rattle.std.proofs.Common.{◌∙◌, ap, arith}
use Rattle.ba_template.specs.Shapes.{shard_of}
use Rattle.ba_cache.specs.Reads.{admitted}
use Rattle.ba_cache.specs.Rows.{shape_of_template}
use Rattle.ba_cache.proofs.Places.{below_eight, calls_at, free_set}
use Rattle.ba_cache.proofs.cache.Cache.admit.Goals as goal

pub returns-clause-free : goal.returns-clause-free
returns-clause-free g c =
    let turns = c.args.self.now.turns in
    let passes = c.args.pass.now.passes in
    let t_ok = turns.ok.0 in
    let p_ok = passes.ok.0 in
    let t8 = c.args.self.now.eight in
    let p8 = c.args.pass.now.eight in
    let below = below_eight c.shard-shard.result _ c.shard-shard.ensures in
    record {
      each = free_set 8 turns.items passes.items c.shard-shard.result c.index.result.now c.admit.new.pass c.requires.free.each (omega arith) (omega arith) c.index.ensures c.admit.ensures.free;
    }

pub returns-clause-call : goal.returns-clause-call
returns-clause-call g c =
    let passes = c.args.pass.now.passes in
    let p_ok = passes.ok.0 in
    let p8 = c.args.pass.now.eight in
    let below = below_eight c.shard-shard.result _ c.shard-shard.ensures in
    calls_at passes.items c.shard-shard.result _ c.index_mut.result.now c.admit.new.pass (admitted c.args.template c.admit.result) (c.shard-shard.ensures ∙ ap shard_of (c.shape.ensures ∙ ap shape_of_template c.deref.ensures)) (omega arith) c.index_mut.ensures.value c.admit.ensures.made c.admit.ensures.legal
