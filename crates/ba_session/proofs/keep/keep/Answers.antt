use Rattle.std.proofs.Common.{[], inl, refl, subst}
use Rattle.ba_general.specs.Generals.{IsTooWide}
use Rattle.ba_model.specs.Readings.{OfFault}
use Rattle.ba_session.proofs.KeepLemmas.{kept_admitted}
use Rattle.ba_session.proofs.PassLemmas.{makes_none}
use Rattle.ba_session.specs.Passing.{on_shelf}
use Rattle.ba_session.proofs.keep.keep.Goals as goal

pub returns-in-Ok-clause-kept : goal.returns-in-Ok-clause-kept
returns-in-Ok-clause-kept g c =
    kept_admitted c.instance_has_shape.ensures c.args.proved.now c.in-Ok.template c.in-Ok.ensures.template c.in-Ok.ensures.instance c.admit.result c.args.passes.now c.admit.new.passes c.admit.ensures.admits

pub returns-in-Err-Fault-clause-kept : goal.returns-in-Err-Fault-clause-kept
returns-in-Err-Fault-clause-kept g c =
    let passes = c.args.passes.now in
    ([], (subst (λ e. OfFault e (λ _. IsTooWide c.args.proved.now)) c.in-Err-Fault.field-0-is c.in-Err-Fault.ensures.wide, refl), makes_none (on_shelf c.args.proved.now.problem.goal []) passes passes refl refl)

pub returns-in-Err-NoMemory-clause-kept : goal.returns-in-Err-NoMemory-clause-kept
returns-in-Err-NoMemory-clause-kept g c =
    let passes = c.args.passes.now in
    ([], inl refl, makes_none (on_shelf c.args.proved.now.problem.goal []) passes passes refl refl)
