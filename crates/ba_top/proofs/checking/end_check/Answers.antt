use Rattle.ba_top.proofs.CheckLemmas.{finding_told}
use Rattle.ba_top.proofs.checking.end_check.Goals as goal

pub returns-in-Ok : goal.returns-in-Ok
returns-in-Ok g c =
    finding_told c.args.proof _ _ c.in-Ok.found c.len-steps.result c.line_found.result c.detail_found.result _
    c.in-Ok.ensures c.len-steps.ensures c.line_found.ensures c.detail_found.ensures c.tell.ensures
