use Rattle.ba_tables.proofs.PairLemmas.{counts_pairs_once}
use Rattle.ba_tables.proofs.laws.counts_pairs_once.Goals as goal

pub returns : goal.returns
returns c = counts_pairs_once
