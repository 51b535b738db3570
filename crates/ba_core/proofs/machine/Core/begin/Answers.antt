use Rattle.std.proofs.Common.{◌<◌, Some, arith, length, subst, sym}
use Rattle.ba_core.proofs.StateLemmas.{asker_begun, changed, only}
use Rattle.ba_core.specs.State.{IsOpenRequest, State}
use Rattle.ba_core.specs.declared.opened.Opened.{Opened}
use Rattle.ba_comply.specs.declared.trace.TraceEntry.{TraceEntry}
use Rattle.ba_model.specs.Fit.{ContextFits, kinds_of}
use Rattle.std.specs.Prelude.{List}
use Rattle.ba_core.proofs.machine.Core.begin.Goals as goal

pub invariant_of-self-2 : goal.invariant_of-self-2
invariant_of-self-2 c =
    let it = c.self.inside in
    let asker : Opened = record { context = c.args.context; version = c.args.version; trace = c.new-trace.result } in
    let context_fits = subst (λ (s : State). ContextFits (kinds_of s.policy.params) c.args.context) (sym c.self.view_is) c.requires in
    let there : c.args.version < length it.versions.items = omega arith in
    let fits = subst (λ (t : List TraceEntry). IsOpenRequest it.policy it.versions.items (record { context = c.args.context; version = c.args.version; trace = t })) (sym c.new-trace.ensures)
    (asker_begun it.policy it.versions.items c.args.context c.args.version context_fits there) in
    changed it.policy it.versions.items it.templates.items it.requests.entries c.put.new.requests.entries it.log.items it.log.items c.args.k (Some asker) c.self.invariant
    c.in_ok-put.ensures.here c.in_ok-put.ensures.others
    (only it.policy it.versions.items asker fits)
