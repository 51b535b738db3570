use Rattle.std.proofs.Common.{◌-◌, ◌^◌, arith}
use Rattle.ba_clash.proofs.CountLemmas.{few_by}
use Rattle.ba_clash.proofs.count.are_few.Goals as goal

pub returns : goal.returns
returns c =
    few_by (2 ^ 64 - 1) c.args.old.now c.args.new.now c.old_rows.result c.new_rows.result
    c.is_within.result (omega arith) c.old_rows.ensures c.new_rows.ensures c.is_within.ensures
