use Rattle.std.proofs.Common.{◌≡◌, ◌≤◌, length, take, arith, ap, ◌∙◌}
use Rattle.std.proofs.lemmas.List.{length-take-le}
use Rattle.ba_classes.proofs.GridLemmas.{IsGrid-given_back}
use Rattle.ba_classes.proofs.grid.Grid.give_back.Goals as goal

pub invariant_of-self : goal.invariant_of-self
invariant_of-self c =
    let grid = c.args.self.now in
    let after = c.remove.new.self in
    let e = c.remove.ensures in
    let within : after.count ≤ length grid.rows.items = omega (arith, grid.in_order.tall, e.count) in
    let len : length c.truncate-2.new.self.items ≡ after.count =
    ap length (c.truncate-2.ensures.items ∙ ap (λ n. take n grid.rows.items) c.len-side.ensures) ∙ length-take-le after.count grid.rows.items within in
    record { in_order = IsGrid-given_back grid.places after grid.rows.items c.truncate-2.new.self.items c.args.node grid.in_order c.requires e.count e.gone e.kept len }
