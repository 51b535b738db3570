use Rattle.ba_facts.specs.Matches.{IsLiveAtom}
use Rattle.std.specs.Option.{option_copied}
use Rattle.ba_instant.proofs.SplitLemmas.{at_all, at_more, split_some}
use Rattle.ba_instant.specs.Offers.{IsSplitOfPart}
use Rattle.ba_instant.proofs.scan.Scan.offer_part_splits.Goals as goal

pub loop-part-preserved : goal.loop-part-preserved
loop-part-preserved c =
    at_more c.args.self.now.search.now c.args.self.now.pick c.args.parts.now (λ it step. IsSplitOfPart c.args.self.now.branch.now c.args.self.now.number c.args.side (option_copied c.args.row) it step) c.loop-part.part-index c.part-item.result c.args.best.now c.loop-part.best
    c.offer_splits_of.new.best c.loop-part-test.true c.part-item.is c.loop-part.invariant c.in_ok-offer_splits_of.ensures

pub returns : goal.returns
returns c =
    split_some c.args.self.now.search.now c.args.self.now.pick c.args.self.now.number c.args.parts.now (λ part. IsLiveAtom c.args.self.now.branch.now c.args.side part (option_copied c.args.row)) c.args.best.now c.loop-part.best
    (at_all c.args.self.now.search.now c.args.self.now.pick c.args.parts.now (λ it step. IsSplitOfPart c.args.self.now.branch.now c.args.self.now.number c.args.side (option_copied c.args.row) it step) c.loop-part.part-index c.args.best.now c.loop-part.best c.loop-part-test.false c.loop-part.invariant)
