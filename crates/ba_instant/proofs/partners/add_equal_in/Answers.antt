use Rattle.std.proofs.Common.{◌≡◌, Some, subst}
use Rattle.std.specs.Prelude.{slice_get}
use Rattle.ba_facts.specs.Members.{AreMembers, IsOnlyClass}
use Rattle.ba_facts.specs.declared.term.Term.{Term}
use Rattle.ba_instant.proofs.PartnerLemmas.{members_gain}
use Rattle.ba_instant.specs.Partners.{Gains, HasAny}
use Rattle.ba_instant.proofs.partners.add_equal_in.Goals as goal

pub returns : goal.returns
returns c told =
    let b = c.args.branch.now in
    let t = c.in-Some.term.now in
    let there : slice_get c.args.fact.now.terms c.args.column ≡ Some t = cc c.in-Some.ensures in
    let only : IsOnlyClass b.known t = subst (IsOnlyClass b.known) c.by_ref.ensures (c.is_only_class.ensures (let yes = c.if-not-is_only_class.false in cc)) in
    let are : AreMembers b.known t c.in_ok-members.members.items = subst (λ (x : Term). AreMembers b.known x c.in_ok-members.members.items) c.by_ref-2.ensures c.in_ok-members.ensures in
    let gains : Gains c.args.facts.now.items c.add_holders.new.facts.items (HasAny b c.in_ok-members.members.items) =
    subst (λ members. Gains c.args.facts.now.items c.add_holders.new.facts.items (HasAny b members)) c.deref.ensures.value c.in_ok-add_holders.ensures in
    members_gain b c.args.fact.now c.requires c.args.column t c.in_ok-members.members.items c.args.facts.now.items c.add_holders.new.facts.items there only are gains
