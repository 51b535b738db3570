use Rattle.ba_general.proofs.ClosesLemmas.{not_closed}
use Rattle.ba_general.proofs.leaving.tried.Goals as goal

pub returns-in-Err-Fault : goal.returns-in-Err-Fault
returns-in-Err-Fault c =
    not_closed c.args.problem.now c.in_ok-problem.problem c.args.steps c.replay.result c.in-Err-Fault.field-0 c.in-Err-Fault.field-0-0 c.in_ok-problem.ensures c.requires.fits
    c.replay.ensures c.in-Err-Fault.is c.in-Err-Fault.field-0-is
