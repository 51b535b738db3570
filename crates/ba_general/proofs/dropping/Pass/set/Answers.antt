use Rattle.std.proofs.Common.{arith, refl}
use Rattle.std.specs.Prelude.{slice_set}
use Rattle.ba_general.proofs.DroppingLemmas.{set_more}
use Rattle.ba_general.proofs.dropping.Pass.set.Goals as goal

pub loop-n-preserved : goal.loop-n-preserved
loop-n-preserved c = (
  set_more c.args.self.now.kept.items c.loop-n.self.kept.items (slice_set c.loop-n.self.kept.items c.loop-n.n c.args.kept) c.args.first c.loop-n.n c.args.kept
      (omega arith) (omega arith) c.loop-n.invariant.0 refl,
  c.loop-n.invariant.1,
  c.loop-n.invariant.2,
  c.loop-n.invariant.3,
  c.loop-n.invariant.4,
  c.loop-n.invariant.5,
)
