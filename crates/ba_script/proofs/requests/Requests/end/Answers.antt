use Rattle.std.proofs.Common.{None, refl}
use Rattle.ba_script.specs.Tracking.{opened}
use Rattle.ba_script.proofs.TrackingLemmas.{chosen}
use Rattle.ba_script.proofs.requests.Requests.end.Goals as goal

pub returns-in-Some-clause-moves : goal.returns-in-Some-clause-moves
returns-in-Some-clause-moves c = record {
  names = λ q. chosen c.args.name q None (opened c.args.self.now q) _ (c.remove.ensures.updates.0 q);
  count = refl;
  sets = refl;
}
