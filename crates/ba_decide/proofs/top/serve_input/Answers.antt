use Rattle.ba_decide.proofs.TopLemmas.{serves_fresh}
use Rattle.ba_decide.proofs.top.serve_input.Goals as goal

pub returns-in-Ok : goal.returns-in-Ok
returns-in-Ok g c = serves_fresh c.args.input _ _ _ _ _ c.in-Ok.live c.in-Ok.ensures.fresh c.serve.ensures
