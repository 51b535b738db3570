use Rattle.std.proofs.Common.{refl, subst}
use Rattle.std.specs.Prelude.{Some}
use Rattle.ba_general.proofs.ClosesLemmas.{not_closed}
use Rattle.ba_kernel.specs.Replays.{Closes}
use Rattle.ba_general.specs.Dropping.{IsProofBy}
use Rattle.ba_general.proofs.copies.proof_by.Goals as goal

pub returns-in-Ok : goal.returns-in-Ok
returns-in-Ok c = subst (λ xs. IsProofBy c.args.problem xs (Some c.in-Ok.proved)) c.in_ok-steps.ensures c.in-Ok.ensures

pub returns-in-Err-Fault : goal.returns-in-Err-Fault
returns-in-Err-Fault c =
    subst (λ xs. ¬ (Closes c.args.problem xs)) c.in_ok-steps.ensures
    (not_closed c.args.problem c.args.problem c.in_ok-steps.steps c.replay.result c.in-Err-Fault.field-0 c.in-Err-Fault.field-0-0 refl c.requires.fits c.replay.ensures
    c.in-Err-Fault.is c.in-Err-Fault.field-0-is)
