use Rattle.std.proofs.Common.{◌≡◌, ◌∙◌, ◌∷◌, ◌++◌, [], ℕ, ℤ, List, ap, get_or, rules, subst, take}
use Rattle.std.proofs.lemmas.Int.{to_z-of_z}
use Rattle.std.proofs.lemmas.List.{take_more}
use Rattle.std.proofs.lemmas.List.Elements.{Contains-get_or}
use Rattle.std.specs.Int.{w128}
use mir.Val.{SFits, to_z, of_z}
use Rattle.ba_refute.specs.Used.{AreWith}
use Rattle.ba_refute.proofs.ComparedLemmas.{before, not_before, so_far_more, so_far_none}
use Rattle.ba_refute.proofs.numbers.node_numbers.Goals as goal

pub loop-n-init : goal.loop-n-init
loop-n-init c =
    rw (c.in_ok-push.ensures.items, c.new-valued.ensures.items, c.new-numbers.ensures.items)
    (so_far_none c.args.known.now c.args.used.now c.in_ok-taken.taken c.in_ok-taken.ensures)

pub next_number-requires-clause-node : goal.next_number-requires-clause-node
next_number-requires-clause-node c =
    let i = c.loop-n.n-index in
    c.requires.nodes.sound (get_or c.args.nodes.now i 0) (Contains-get_or c.args.nodes.now i 0 c.loop-n-test.true)

pub loop-n-preserved : goal.loop-n-preserved
loop-n-preserved c =
    let k = c.args.known.now in
    let l = c.loop-n in
    let nodes = c.args.nodes.now in
    let i = l.n-index in
    let node : ℕ = get_or nodes i 0 in
    let value : ℤ = c.in_ok-value.value in
    let fits : SFits w128 value = search rules in
    let same : to_z w128 (of_z w128 value) ≡ value = to_z-of_z w128 value fits in
    let with : AreWith l.taken value c.add.new.self =
    subst (λ (xs : List ℤ). AreWith xs value c.add.new.self) c.in_ok-value.ensures.used
    (subst (λ (z : ℤ). AreWith c.next_number.new.used z c.add.new.self) same c.in_ok-add.ensures) in
    let with_value : ℤ → List ℤ = λ z. l.numbers.items ++ z ∷ [] in
    let values : c.push-in-loop-n.new.self.items ≡ with_value value = c.in_ok-push-2.ensures.items ∙ ap with_value same in
    let more = take_more nodes i 0 c.loop-n-test.true in
    rw (more, values)
    (so_far_more k c.args.used.now (take i nodes) l.valued.items c.next_number.new.valued.items l.taken c.add.new.self l.numbers.items node value
    (λ m h. c.requires.nodes.sound m (before nodes i m h))
    (c.requires.nodes.sound node (Contains-get_or nodes i 0 c.loop-n-test.true))
    (not_before nodes i c.requires.nodes.rising c.loop-n-test.true)
    l.invariant c.in_ok-value.ensures.value with)
