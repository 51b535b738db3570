use Rattle.std.proofs.Common.{refl, subst, sym}
use Rattle.ba_lanes.proofs.LaneLemmas.{ask_named, begin_named, publish_named, read_named, takes_end}
use Rattle.ba_lanes.specs.Serving.{CanTake, Takes}
use Rattle.ba_lanes.proofs.lane.Lane.line.Goals as goal

pub begin-requires-clause-can : goal.begin-requires-clause-can
begin-requires-clause-can g c name =
    let input = c.args.input.now in
    let service = c.args.service.now in
    let it = c.in-Begin in
    begin_named input service c.args.self.now it.request it.context it.name name (subst (λ l. CanTake input service l c.args.self.now) it.is c.requires.can)

pub ask-requires-clause-can : goal.ask-requires-clause-can
ask-requires-clause-can g c name =
    let input = c.args.input.now in
    let service = c.args.service.now in
    let it = c.in-Ask in
    ask_named input service c.args.self.now it.request it.query it.name name (subst (λ l. CanTake input service l c.args.self.now) it.is c.requires.can)

pub read-requires-clause-can : goal.read-requires-clause-can
read-requires-clause-can g c name =
    let input = c.args.input.now in
    let service = c.args.service.now in
    let it = c.in-Read in
    (it.questions, read_named input service c.args.self.now it.request it.key it.arguments it.questions it.name name (subst (λ l. CanTake input service l c.args.self.now) it.is c.requires.can))

pub publish-requires-clause-can : goal.publish-requires-clause-can
publish-requires-clause-can g c name =
    let input = c.args.input.now in
    let service = c.args.service.now in
    let it = c.in-Publish in
    publish_named input service c.args.self.now it.number it.set name (subst (λ l. CanTake input service l c.args.self.now) it.is c.requires.can)

pub returns-in-End : goal.returns-in-End
returns-in-End g c =
    let input = c.args.input.now in
    let service = c.args.service.now in
    let lane = c.args.self.now in
    let it = c.in-End in
    subst (λ l. Takes input service l c.end.result lane lane) (sym it.is) (takes_end input service lane lane c.requires.can.of refl refl it.request it.name c.end.result c.end.ensures refl refl)
