use Rattle.std.proofs.Common.{◌≡◌, ◌∙◌, ◌<◌, ◌^◌, ℤ, List, ap, length, map, rules, subst, sym}
use Rattle.ba_facts.specs.Shown.{rising}
use Rattle.ba_model.specs.declared.value.Value.{Value}
use Rattle.ba_refute.specs.Images.{AreNodes, AreNumbers, IsMarks, literals, numbers_of}
use Rattle.ba_refute.specs.OfEquations.{AreSmall}
use Rattle.ba_refute.proofs.ValueLemmas.{always, small, values_found}
use Rattle.ba_refute.proofs.values.values.Goals as goal

pub node_numbers-requires-clause-order : goal.node_numbers-requires-clause-order
node_numbers-requires-clause-order c = λ h. c.requires (rising h.above h.chain)

pub node_numbers-requires-clause-nodes : goal.node_numbers-requires-clause-nodes
node_numbers-requires-clause-nodes c = subst (AreNodes c.args.branch.now.known) (sym c.deref-3.ensures.value) c.in_ok-nodes.ensures.exact

pub returns-clause-image : goal.returns-clause-image
returns-clause-image c =
    let k = c.args.branch.now.known in
    let all : List Value = literals c.args.problem.now c.args.branch.now in
    let used = c.deref-4.result.now in
    let nodes = c.deref-5.result.now in
    let numbers = c.deref-6.result.now in
    let marked : IsMarks all c.in_ok-marks.marks =
    subst (λ (vs : List Value). IsMarks vs c.in_ok-marks.marks) (ap (map (λ v. v.now)) c.deref.ensures.value ∙ c.in_ok-all.ensures) c.in_ok-marks.ensures in
    let used_is : used ≡ numbers_of all =
    c.deref-4.ensures.value ∙ c.in_ok-used.ensures.value ∙ ap (λ (vs : List Value). numbers_of vs) (ap (map (λ v. v.now)) c.deref-2.ensures.value ∙ c.in_ok-all.ensures) in
    let are : AreNodes k nodes = subst (AreNodes k) (sym c.deref-5.ensures.value) c.in_ok-nodes.ensures.exact in
    let numbered : AreNumbers k used nodes numbers =
    subst (λ (zs : List ℤ). AreNumbers k used nodes zs) (sym c.deref-6.ensures.value)
    (subst (λ ns. AreNumbers k used ns c.in_ok-numbers.numbers.items) (c.deref-3.ensures.value ∙ sym c.deref-5.ensures.value) c.in_ok-numbers.ensures) in
    values_found (λ v. v.items) k all c.in_ok-marks.marks used nodes numbers c.all_values.result marked used_is are numbered c.all_values.ensures.len c.all_values.ensures.each

pub returns-clause-small : goal.returns-clause-small
returns-clause-small c =
    let used = c.deref-4.result.now in
    let few : length used < 2 ^ 60 = search rules in
    let used_is : c.in_ok-used.used.items ≡ numbers_of (literals c.args.problem.now c.args.branch.now) =
    c.in_ok-used.ensures.value ∙ ap (λ (vs : List Value). numbers_of vs) (ap (map (λ v. v.now)) c.deref-2.ensures.value ∙ c.in_ok-all.ensures) in
    always (λ it. AreSmall c.args.problem.now c.args.branch.now) c.all_values.result
    (λ it. small c.args.problem.now c.args.branch.now c.in_ok-used.used.items used used_is c.in_ok-used.ensures.stored c.deref-4.ensures.value few c.in_ok-nodes.ensures.few)
