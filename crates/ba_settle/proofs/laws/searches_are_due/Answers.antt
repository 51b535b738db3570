use Rattle.ba_settle.proofs.SearchLemmas.{due_list}
use Rattle.ba_settle.proofs.laws.searches_are_due.Goals as goal

pub returns : goal.returns
returns c = due_list
