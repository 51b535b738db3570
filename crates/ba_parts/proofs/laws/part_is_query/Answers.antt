use Rattle.ba_parts.proofs.UnionLemmas.{part_is_query}
use Rattle.ba_parts.proofs.laws.part_is_query.Goals as goal

pub returns : goal.returns
returns c = part_is_query
