use Rattle.ba_instant.proofs.SplitLemmas.{split_sides}
use Rattle.ba_instant.proofs.scan.Scan.offer_side_splits.Goals as goal

pub returns : goal.returns
returns c =
    split_sides c.args.self.now.search.now c.args.self.now.pick c.args.self.now.number c.args.self.now.branch.now c.args.parts.now c.args.best.now c.offer_part_splits.new.best c.offer_part_splits-2.new.best
    c.in_ok-offer_part_splits.ensures c.in_ok-offer_part_splits-2.ensures
