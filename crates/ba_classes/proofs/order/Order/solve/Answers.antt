use Rattle.std.proofs.Common.{◌≡◌, ℕ, ℤ, pos, ◌∷◌, ◌++◌, [], List, take, get_or, rules, ap, ◌∙◌, subst}
use Rattle.std.proofs.lemmas.Int.{to_z-of_z}
use Rattle.std.proofs.lemmas.List.{take_more, take_all}
use Rattle.std.specs.Int.{w128}
use mir.Val.{SFits, to_z, of_z}
use Rattle.ba_classes.specs.Image.{IsImage, IsValue, Meets, with_zero}
use Rattle.ba_classes.proofs.ImageLemmas.{IsSoFar-none, IsSoFar-more}
use Rattle.ba_classes.proofs.order.Order.solve.Goals as goal

pub loop-node-init : goal.loop-node-init
loop-node-init c =
    let zero_first : c.push.new.self.items ≡ (0, pos 0) ∷ [] = c.in_ok-push.ensures.items ∙ ap (λ (ps : List (ℕ × ℤ)). ps ++ (0, pos 0) ∷ []) c.new-valued.ensures.items in
    rw (zero_first, c.in_ok-taken.ensures.items, c.new-values.ensures.items) (IsSoFar-none c.args.self.now c.args.used.now c.requires)

pub loop-node-preserved : goal.loop-node-preserved
loop-node-preserved c =
    let l = c.loop-node in
    let node : ℕ = get_or c.args.nodes.now l.node-index 0 in
    let value : ℤ = c.in_ok-value.value in
    let fits : SFits w128 value = search rules in
    let same : to_z w128 (of_z w128 value) ≡ value = to_z-of_z w128 value fits in
    let is : IsValue c.args.self.now l.valued.items l.taken.items node value =
    subst (λ ps. IsValue c.args.self.now ps l.taken.items node value) c.deref.ensures.value
    (subst (λ ts. IsValue c.args.self.now c.deref.result.now ts node value) c.deref-in-loop-node.ensures.value c.in_ok-value.ensures) in
    let more = take_more c.args.nodes.now l.node-index 0 c.loop-node-test.true in
    let with_pair : ℤ → List (ℕ × ℤ) = λ z. l.valued.items ++ (node, z) ∷ [] in
    let with_taken : ℤ → List ℤ = λ z. l.taken.items ++ z ∷ [] in
    let with_value : ℤ → List ℤ = λ z. l.values.items ++ z ∷ [] in
    let valued : c.push-in-loop-node.new.self.items ≡ with_pair value = c.in_ok-push-2.ensures.items ∙ ap with_pair same in
    let taken : c.push-in-loop-node-2.new.self.items ≡ with_taken value = c.in_ok-push-3.ensures.items ∙ ap with_taken same in
    let values : c.push-in-loop-node-3.new.self.items ≡ with_value value = c.in_ok-push-4.ensures.items ∙ ap with_value same in
    rw (more, valued, taken, values)
    (IsSoFar-more c.args.self.now c.args.used.now (take l.node-index c.args.nodes.now) l.valued.items l.taken.items l.values.items node value c.requires l.invariant is)

pub returns-clause-image : goal.returns-clause-image
returns-clause-image c =
    let whole = take_all c.loop-node.node-index c.args.nodes.now c.loop-node-test.false in
    subst (λ (ns : List ℕ). IsImage c.args.self.now c.args.used.now ns c.loop-node.values.items) whole c.loop-node.invariant.image

pub returns-clause-meets : goal.returns-clause-meets
returns-clause-meets c =
    let whole = take_all c.loop-node.node-index c.args.nodes.now c.loop-node-test.false in
    subst (λ (ns : List ℕ). Meets c.args.self.now (with_zero ns c.loop-node.values.items)) whole c.loop-node.invariant.meets
