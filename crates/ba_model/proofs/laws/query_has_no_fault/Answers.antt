use Rattle.ba_model.proofs.QueryLemmas.{no_fault_from_query, query_from_no_fault}
use Rattle.ba_model.proofs.laws.query_has_no_fault.Goals as goal

pub returns : goal.returns
returns c s params vars q = (no_fault_from_query s params vars q, query_from_no_fault s params vars q)
