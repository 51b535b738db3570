use Rattle.std.proofs.Common.{subst}
use Rattle.ba_facts.specs.Members.{AreMembers, IsOnlyClass}
use Rattle.ba_kernel.proofs.TargetLemmas.{same_members}
use Rattle.ba_kernel.proofs.news.rows.sought_by.Goals as goal

pub returns-in-Ok : goal.returns-in-Ok
returns-in-Ok c =
    same_members c.args.branch.now.known c.args.term.now c.in-Ok.members.items
    (subst (IsOnlyClass c.args.branch.now.known) c.by_ref.ensures (c.is_only_class.ensures c.if-not-is_only_class.false))
    (subst (λ t. AreMembers c.args.branch.now.known t c.in-Ok.members.items) c.by_ref-2.ensures c.in-Ok.ensures)
