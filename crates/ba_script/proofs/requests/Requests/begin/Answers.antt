use Rattle.std.proofs.Common.{Some, refl}
use Rattle.ba_script.specs.Tracking.{opened}
use Rattle.ba_script.proofs.TrackingLemmas.{begun_under}
use Rattle.ba_script.proofs.requests.Requests.begin.Goals as goal

pub returns-clause-moves : goal.returns-clause-moves
returns-clause-moves c =
    let old = c.args.self.now in
    record {
      names = λ q. begun_under c.in_ok-copy.field-0 c.args.name q (Some (record { request = old.begun; asks = 0 })) (opened old q) _ c.in_ok-copy.ensures (c.in_ok-insert.ensures.updates.0 q);
      count = refl;
      sets = refl;
    }
