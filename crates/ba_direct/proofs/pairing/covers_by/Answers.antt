use Rattle.ba_direct.proofs.TestLemmas.{covers_sound, covers_complete}
use Rattle.ba_direct.proofs.pairing.covers_by.Goals as goal

pub returns : goal.returns
returns c = (
  λ e. covers_sound c.args.ctx.now c.args.to.now c.args.view.now c.args.part.now (c.pairs_tables.ensures.0 (cc)) (cc),
  λ h. let k = covers_complete c.args.ctx.now c.args.to.now c.args.view.now c.args.part.now h in cc,
)
