use Rattle.ba_lanes.proofs.WorkLemmas.{is_done}
use Rattle.ba_lanes.proofs.work.WorkJob.work.Goals as goal

pub returns : goal.returns
returns g c =
    let it = c.args.self.now in
    let ready = c.requires.1 in
    let served = c.serve.ensures in
    (is_done it.input.now it.service.now c.args.job it.lane.passes c.serve.new.self ready.unused served, record { shelves = λ i low. (served.makes.shelves i low).seen })
