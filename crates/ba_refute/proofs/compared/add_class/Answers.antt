use Rattle.std.proofs.Common.{subst, sym}
use Rattle.std.specs.Result.{OnOk}
use Rattle.ba_facts.specs.Known.{OneClass}
use Rattle.ba_facts.specs.Members.{AreMembers}
use Rattle.ba_facts.specs.declared.term.Term.{Term}
use Rattle.ba_refute.specs.Compared.{HaveMore}
use Rattle.ba_refute.proofs.ComparedLemmas.{more_least, more_members, on_ok}
use Rattle.ba_refute.proofs.compared.add_class.Goals as goal

pub returns-in-Unknown : goal.returns-in-Unknown
returns-in-Unknown c =
    let k = c.args.known.now in
    let old = c.args.found.now.keys in
    let new = c.add.new.found.keys in
    subst (λ (t : Term). OnOk c.add.result (HaveMore k (λ s. OneClass k s t) old new)) (sym c.in-Unknown.is)
    (on_ok c.add.result (λ with. more_least k c.in-Unknown.n c.least_of.result old new c.least_of.ensures with) c.add.ensures)

pub returns-in_ok-members-in-Param : goal.returns-in_ok-members-in-Param
returns-in_ok-members-in-Param c =
    let k = c.args.known.now in
    let members = c.deref.result.now in
    let are : AreMembers k c.args.term.now members =
    subst (λ ms. AreMembers k c.args.term.now ms) (sym c.deref.ensures.value)
    (subst (λ (t : Term). AreMembers k t c.in_ok-members-in-Param.field-0.items) c.by_ref.ensures c.in_ok-members-in-Param.ensures) in
    on_ok c.add_all.result (λ all. more_members k c.args.term.now members c.args.found.now.keys c.add_all.new.found.keys are all) c.add_all.ensures
