use Rattle.ba_eval.proofs.AnswerLemmas.{adds_one}
use Rattle.ba_eval.proofs.found.Found.add.Goals as goal

pub returns : goal.returns
returns c = adds_one _ c.make_room.new.self _ _ c.make_room.ensures (let e = c.in_ok-push.ensures.items in cc)
