use Rattle.std.proofs.Common.{◌≡◌, arith}
use Rattle.std.proofs.lemmas.Result.{on_ok_weaker}
use Rattle.ba_template.specs.Shapes.{shard_of}
use Rattle.ba_judge.proofs.ShelfLemmas.{below_eight, others_stay, own_changes}
use Rattle.ba_judge.specs.Rows.{used}
use Rattle.ba_judge.proofs.shelves.Shelves.look.Goals as goal

pub returns-clause-ok : goal.returns-clause-ok
returns-clause-ok c =
    let it = c.args.self.now in
    let shard = c.shard-shard.result in
    let ok = it.shelves.ok.0 in
    let eight = it.eight in
    let low = below_eight shard _ c.shard-shard.ensures in
    let shard_is = c.shard-shard.ensures in
    on_ok_weaker c.look.result
    (λ h. record {
      own = own_changes it.shelves.items shard c.index_mut.result.now c.look.new.self (omega arith) c.index_mut.ensures.value (λ old new. new ≡ used c.args.shape.now old) (shard_of c.args.shape.now) shard_is h;
      others = others_stay it.shelves.items shard c.index_mut.result.now c.look.new.self (omega arith) c.index_mut.ensures.value (shard_of c.args.shape.now) shard_is;
    })
    c.look.ensures.ok
