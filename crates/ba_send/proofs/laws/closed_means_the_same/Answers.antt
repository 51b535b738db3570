use Rattle.ba_send.proofs.ClosedLemmas.{closed_is_query, closed_means_the_same}
use Rattle.ba_send.proofs.laws.closed_means_the_same.Goals as goal

pub returns : goal.returns
returns c = record { query = closed_is_query; same = closed_means_the_same }
