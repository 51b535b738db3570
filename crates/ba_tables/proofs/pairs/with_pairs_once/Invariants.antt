use Rattle.ba_tables.proofs.PairLemmas.{PairsGathered}
use Rattle.ba_tables.proofs.pairs.with_pairs_once.Given as goal

abbrev pub invariant-loop-i : goal.invariant-loop-i
invariant-loop-i l = PairsGathered l.link l.i l.seen l.columns l.target_columns
