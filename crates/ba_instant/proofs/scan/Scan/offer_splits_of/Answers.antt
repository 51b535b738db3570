use Rattle.std.specs.Option.{option_copied}
use Rattle.ba_instant.proofs.SplitLemmas.{split_none}
use Rattle.ba_instant.proofs.scan.Scan.offer_splits_of.Goals as goal

pub returns-then-equations : goal.returns-then-equations
returns-then-equations c =
    split_none c.args.self.now.search.now c.args.self.now.pick c.args.self.now.number c.args.self.now.branch.now c.requires.of.open_ c.args.side c.args.part.now (option_copied c.args.row) c.args.best.now (c.equations.ensures.0 c.if-equations.true)
