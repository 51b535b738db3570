use Rattle.std.proofs.Common.{refl}
use Rattle.ba_instant.proofs.MappedWalks.{enough_recent}
use Rattle.ba_instant.proofs.mapped.MappedVisit.offered.Goals as goal

pub returns-then-are_old : goal.returns-then-are_old
returns-then-are_old c = enough_recent c.args.self.now c.requires.0 c.args.from.now c.args.chosen.now _ c.if-from-eq1.true (c.are_old.ensures.0 c.if-are_old.true) refl
