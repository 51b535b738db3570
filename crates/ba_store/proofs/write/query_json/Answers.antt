use Rattle.std.proofs.Common.{All, subst}
use Rattle.ba_store.specs.ReadBack.{PartHasBits}
use Rattle.ba_store.proofs.write.query_json.Goals as goal

pub returns-clause-bits : goal.returns-clause-bits
returns-clause-bits c = record { parts = subst (All PartHasBits) c.as_slice.ensures c.in_ok-parts.ensures.bits }
