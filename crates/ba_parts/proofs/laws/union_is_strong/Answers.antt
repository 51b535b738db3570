use Rattle.ba_parts.proofs.UnionLemmas.{union_is_strong}
use Rattle.ba_parts.proofs.laws.union_is_strong.Goals as goal

pub returns : goal.returns
returns c = union_is_strong
