use Rattle.ba_direct.proofs.CoverLemmas.{cover_covers}
use Rattle.ba_direct.proofs.laws.cover_covers.Goals as goal

pub returns : goal.returns
returns c = cover_covers
