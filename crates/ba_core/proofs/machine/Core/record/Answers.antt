use Rattle.std.proofs.Common.{subst, sym}
use Rattle.ba_core.proofs.StateLemmas.{kept}
use Rattle.ba_core.specs.Runs.{IsCompliant, TellsCompliantly}
use Rattle.ba_core.specs.State.{State}
use Rattle.ba_core.specs.declared.event.Asked.{Asked}
use Rattle.ba_core.proofs.machine.Core.record.Goals as goal

pub invariant_of-self : goal.invariant_of-self
invariant_of-self c =
    let it = c.self.inside in
    let told : IsCompliant c.args.self.now c.args.k c.args.query c.in-Answer.rows =
    subst (λ (asked : Asked). TellsCompliantly c.args.self.now c.args.k c.args.query asked) c.in-Answer.is c.requires in
    kept it.policy it.versions.items it.templates.items it.requests.entries c.keep.new.requests.entries it.log.items c.keep.new.log.items c.args.k c.args.query c.in-Answer.rows c.keep.result
    c.self.invariant
    (subst (λ (s : State). IsCompliant s c.args.k c.args.query c.in-Answer.rows) (sym c.self.view_is) told)
    c.keep.ensures.here c.keep.ensures.others c.keep.ensures.err
