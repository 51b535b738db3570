use Rattle.std.proofs.Common.{None}
use Rattle.ba_core.proofs.StateLemmas.{changed}
use Rattle.ba_core.proofs.machine.Core.end.Goals as goal

pub invariant_of-self : goal.invariant_of-self
invariant_of-self c =
    let it = c.self.inside in
    changed it.policy it.versions.items it.templates.items it.requests.entries c.close.new.requests.entries it.log.items it.log.items c.args.k None c.self.invariant c.close.ensures.here
    c.close.ensures.others (λ asker is. cc)
