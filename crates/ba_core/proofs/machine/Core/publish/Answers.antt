use Rattle.std.proofs.Common.{◌≡◌, subst, sym}
use Rattle.ba_core.proofs.StateLemmas.{published}
use Rattle.ba_core.specs.State.{State}
use Rattle.ba_model.specs.Conform.{Conforms}
use Rattle.ba_tables.specs.TableSet.{TableSet}
use Rattle.ba_core.proofs.machine.Core.publish.Goals as goal

pub invariant_of-self-2 : goal.invariant_of-self-2
invariant_of-self-2 c =
    let it = c.self.inside in
    published it.policy it.versions.items c.push.new.self.items it.templates.items it.requests.entries it.log.items c.args.tables c.self.invariant
    (subst (λ (s : State). c.args.tables.schema ≡ s.policy.schema) (sym c.self.view_is) c.requires)
    (subst (λ (t : TableSet). Conforms t.schema t.rows) c.tables.view_is c.tables.invariant)
    c.in_ok-push.ensures.items
