use Rattle.std.proofs.Common.{◌≡◌, ◌∙◌, [], ◌∷◌, ◌++◌, List, OnOk, Result, ap, subst, sym}
use Rattle.std.specs.declared.alloc.AllocError.{AllocError}
use Rattle.ba_evidence.specs.Evidence.{Evidence, TellsGrounds, matched}
use Rattle.ba_evidence.specs.declared.reads.Rests.{Rests}
use Rattle.ba_match.specs.Instances.{instance_of}
use Rattle.ba_model.specs.declared.policy.Parameter.{Parameter}
use Rattle.ba_top.specs.Evidence.{evidence_of, trace_at}
use Rattle.ba_top.proofs.evident.add_ground.Goals as goal

-- equal parameters and grounds tell the same
told_moves : (result : Result (Unit {0}) AllocError) (ps qs : List Parameter) (old new : Rests) (it that : Evidence) → ps ≡ qs → it ≡ that → OnOk result ((before : List Evidence) → TellsGrounds ps before old → TellsGrounds ps (before ++ it ∷ []) new) →
    OnOk result ((before : List Evidence) → TellsGrounds qs before old → TellsGrounds qs (before ++ that ∷ []) new)
told_moves result ps qs old new it that p e t =
    subst (λ x. OnOk result ((before : List Evidence) → TellsGrounds qs before old → TellsGrounds qs (before ++ x ∷ []) new)) e
    (subst (λ z. OnOk result ((before : List Evidence) → TellsGrounds z before old → TellsGrounds z (before ++ it ∷ []) new)) p t)

pub returns-in-Cover-clause-told : goal.returns-in-Cover-clause-told
returns-in-Cover-clause-told c =
    let trace = trace_at c.args.requests.now.traces.items c.args.request in
    told_moves c.push.result _ c.args.policy.now.params c.args.rests.now c.push.new.self _ (evidence_of trace c.args.by.now)
    (c.as_slice-params.ensures ∙ ap (λ p. p.params) c.deref.ensures) (ap (evidence_of trace) (sym c.in-Cover.is)) c.push.ensures.told

pub returns-in-Proof-clause-told : goal.returns-in-Proof-clause-told
returns-in-Proof-clause-told c =
    let trace = trace_at c.args.requests.now.traces.items c.args.request in
    told_moves c.push-in-Proof.result _ c.args.policy.now.params c.args.rests.now c.push-in-Proof.new.self _ (evidence_of trace c.args.by.now)
    (c.as_slice-params.ensures ∙ ap (λ p. p.params) c.deref.ensures) (ap (evidence_of trace) (sym c.in-Proof.is)) c.push-in-Proof.ensures.told

pub returns-in_ok-steps-in-Template-clause-told : goal.returns-in_ok-steps-in-Template-clause-told
returns-in_ok-steps-in-Template-clause-told c =
    let trace = trace_at c.args.requests.now.traces.items c.args.request in
    let found = c.in-Template.found in
    let steps = c.in_ok-steps-in-Template.ensures.steps ∙ ap (λ t. instance_of found trace t.steps) c.deref-in-Template.ensures in
    told_moves c.push-in-Template.result _ c.args.policy.now.params c.args.rests.now c.push-in-Template.new.self _ (evidence_of trace c.args.by.now)
    (c.as_slice-params.ensures ∙ ap (λ p. p.params) c.deref.ensures) (ap matched steps ∙ ap (evidence_of trace) (sym c.in-Template.is)) c.push-in-Template.ensures.told
