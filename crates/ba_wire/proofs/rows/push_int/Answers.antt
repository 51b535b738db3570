use Rattle.std.proofs.Common.{rules}
use Rattle.std.proofs.lemmas.Result.{on_ok_weaker}
use Rattle.ba_wire.proofs.RowLemmas.{adds_integer}
use Rattle.ba_wire.proofs.rows.push_int.Goals as goal

pub returns : goal.returns
returns c = on_ok_weaker c.i64.result (λ e. adds_integer c.args.n c.args.out.now c.i64.new.self c.ranges.n c.i64.ensures.room.0 e) (search rules)
