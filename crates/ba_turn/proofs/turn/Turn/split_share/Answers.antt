use Rattle.std.proofs.Common.{rules, arith}
use Rattle.ba_turn.proofs.Splits.{splits}
use Rattle.ba_turn.proofs.turn.Turn.split_share.Goals as goal

pub split_seat-seat-requires : goal.split_seat-seat-requires
split_seat-seat-requires g c =
    let f = c.requires.free in
    (f.of.table, search rules, splits g.S.Storied.opening g.S.Storied.history g.S.Storied.room c.args.self.now.table.shared.key.start.value c.args.self.now.table.shared.key.allowance _ _ _ f.of.live f.no_ticket f.no_turn c.requires.opening (omega arith))
