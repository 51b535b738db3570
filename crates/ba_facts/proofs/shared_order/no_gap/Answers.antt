use Rattle.std.proofs.Common.{ℤ, pos, ◌≤ℤ◌, arith}
use Rattle.std.proofs.lemmas.Int.{ints}
use Rattle.ba_facts.proofs.EmptyOrder.{none_shows, shown_of_none}
use Rattle.ba_facts.proofs.shared_order.no_gap.Goals as goal

pub returns-then-low-high-clause-greatest : goal.returns-then-low-high-clause-greatest
returns-then-low-high-clause-greatest c = (none_shows c.args.low c.args.high (pos 0) c.if-low-high.true (let e : pos 0 ≤ℤ pos 0 = omega (arith, ints) in e), λ k s. (shown_of_none c.args.low c.args.high k s).1)
