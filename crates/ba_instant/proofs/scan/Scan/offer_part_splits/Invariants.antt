use Rattle.ba_instant.proofs.SplitLemmas.{At}
use Rattle.std.specs.Option.{option_copied}
use Rattle.ba_instant.specs.Offers.{Improves, IsSplitOfPart, Upto}
use Rattle.ba_instant.proofs.scan.Scan.offer_part_splits.Given as goal

-- the parts so far were offered
abbrev pub invariant-loop-part : goal.invariant-loop-part
invariant-loop-part l =
    Improves l.self.search.now l.self.pick
    (Upto (At l.self.search.now l.self.pick l.parts (λ it step. IsSplitOfPart l.self.branch.now l.self.number l.side (option_copied l.row) it step)) l.part-index) l.fn.best l.best
