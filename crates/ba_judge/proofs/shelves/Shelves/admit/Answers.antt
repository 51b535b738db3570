use Rattle.std.proofs.Common.{◌∙◌, ap, arith}
use Rattle.std.proofs.lemmas.Result.{on_err_weaker, on_ok_weaker}
use Rattle.ba_template.specs.Shapes.{shard_of}
use Rattle.ba_judge.proofs.ShelfLemmas.{all_stay, below_eight, others_stay, own_changes}
use Rattle.ba_judge.specs.Rows.{Admits, shape_of_template}
use Rattle.ba_judge.proofs.shelves.Shelves.admit.Goals as goal

pub returns-clause-ok : goal.returns-clause-ok
returns-clause-ok c =
    let it = c.args.self.now in
    let shard = c.shard-shard.result in
    let ok = it.shelves.ok.0 in
    let eight = it.eight in
    let low = below_eight shard _ c.shard-shard.ensures in
    let shard_is = (c.shard-shard.ensures ∙ ap shard_of (c.shape.ensures ∙ ap shape_of_template c.deref.ensures)) in
    on_ok_weaker c.admit.result
    (λ h. record {
      own = own_changes it.shelves.items shard c.index_mut.result.now c.admit.new.self (omega arith) c.index_mut.ensures.value (Admits c.args.template) (shard_of (shape_of_template c.args.template)) shard_is h;
      others = others_stay it.shelves.items shard c.index_mut.result.now c.admit.new.self (omega arith) c.index_mut.ensures.value (shard_of (shape_of_template c.args.template)) shard_is;
    })
    c.admit.ensures.ok

pub returns-clause-err : goal.returns-clause-err
returns-clause-err c =
    let it = c.args.self.now in
    let shard = c.shard-shard.result in
    let ok = it.shelves.ok.0 in
    let eight = it.eight in
    let low = below_eight shard _ c.shard-shard.ensures in
    on_err_weaker c.admit.result
    (λ h. record { each = all_stay it.shelves.items shard c.index_mut.result.now c.admit.new.self (omega arith) c.index_mut.ensures.value (ap (λ r. r.entries) h) })
    c.admit.ensures.err
