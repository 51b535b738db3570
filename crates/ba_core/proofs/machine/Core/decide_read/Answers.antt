use Rattle.std.proofs.Common.{subst, sym}
use Rattle.std.specs.List.{AllZip}
use Rattle.ba_core.proofs.ReadLemmas.{read_complies}
use Rattle.ba_core.specs.Grounds.{Supports}
use Rattle.ba_model.specs.declared.policy.Policy.{Policy}
use Rattle.ba_core.proofs.machine.Core.decide_read.Goals as goal

pub returns-clause-compliant : goal.returns-clause-compliant
returns-clause-compliant c =
    read_complies c.args.self.now c.args.k c.args.queries.now c.args.grounds.now c.in-Some.asker.now c.tables_of-pinned.result.now c.allows.result (sym c.in-Some.ensures.is) c.in-Some.ensures.asker
    c.tables_of-pinned.ensures.pinned c.tables_of-pinned.ensures.version c.strong_complies.ensures
    (subst (λ (p : Policy). AllZip (Supports p c.in-Some.asker.now) c.args.queries.now c.args.grounds.now) c.policy.ensures.is (c.in_ok-fit.ensures.strong c.if-not-fit.false))
    c.allows.ensures.allowed
