use Rattle.std.proofs.Common.{◌++◌, ◌<◌, ◌≤◌, ◌∙◌, ap, arith, false, length, refl, subst, true}
use Rattle.std.proofs.lemmas.Option.{slice_get_read}
use Rattle.ba_general.proofs.OthersLemmas.{sofar_end, sofar_next, sofar_none, sofar_start}
use Rattle.ba_general.specs.Leaving.{IsNext}
use Rattle.ba_general.proofs.others.Taken.without.Goals as goal

pub loop-n-init : goal.loop-n-init
loop-n-init c =
    let its = c.args.self.now.made.items in
    let below : c.args.first < length c.args.self.now.made.items = omega (arith, c.requires.there, c.requires.made) in
    sofar_start c.args.self.now.steps its c.args.first c.args.end c.index.result.now c.in_ok-others.others.gaps.items c.in_ok-others.others.moved
    (slice_get_read its (length its) c.args.first c.index.result.now refl below c.index.ensures) c.in_ok-others.ensures.gaps c.in_ok-others.ensures.moved

pub returns-then-not-told : goal.returns-then-not-told
returns-then-not-told c =
    let its = c.args.self.now.made.items in
    let below : c.loop-n.n < length c.args.self.now.steps = omega (arith, c.len-n-end.ensures, c.loop-n-test.true) in
    let also : c.loop-n.n < length c.args.self.now.made.items = omega (arith, below, c.requires.made) in
    sofar_none c.args.self.now.steps its c.args.first c.args.end c.loop-n.n c.loop-n.others.gaps.items c.next.new.self.gaps.items c.loop-n.others.moved c.next.new.self.moved
    c.get.result.now c.index-in-loop-n.result.now below also c.get.ensures
    (slice_get_read its (length its) c.loop-n.n c.index-in-loop-n.result.now refl also c.index-in-loop-n.ensures) c.loop-n.invariant
    (subst
    (λ left. IsNext left c.loop-n.others.gaps.items c.loop-n.others.moved c.get.result.now c.index-in-loop-n.result.now c.next.new.self.gaps.items c.next.new.self.moved false)
    c.saturating_sub-left.ensures
    (subst
    (IsNext c.saturating_sub-left.result c.loop-n.others.gaps.items c.loop-n.others.moved c.get.result.now c.index-in-loop-n.result.now c.next.new.self.gaps.items
    c.next.new.self.moved)
    c.if-not-told.true c.in_ok-told.ensures))

pub loop-n-preserved : goal.loop-n-preserved
loop-n-preserved c =
    let its = c.args.self.now.made.items in
    let below : c.loop-n.n < length c.args.self.now.steps = omega (arith, c.len-n-end.ensures, c.loop-n-test.true) in
    let also : c.loop-n.n < length c.args.self.now.made.items = omega (arith, below, c.requires.made) in
    sofar_next c.args.self.now.steps its c.args.first c.args.end c.loop-n.n c.loop-n.others.gaps.items c.next.new.self.gaps.items c.loop-n.others.moved c.next.new.self.moved
    c.get.result.now c.index-in-loop-n.result.now below also c.get.ensures
    (slice_get_read its (length its) c.loop-n.n c.index-in-loop-n.result.now refl also c.index-in-loop-n.ensures) c.loop-n.invariant
    (subst
    (λ left. IsNext left c.loop-n.others.gaps.items c.loop-n.others.moved c.get.result.now c.index-in-loop-n.result.now c.next.new.self.gaps.items c.next.new.self.moved true)
    c.saturating_sub-left.ensures
    (subst
    (IsNext c.saturating_sub-left.result c.loop-n.others.gaps.items c.loop-n.others.moved c.get.result.now c.index-in-loop-n.result.now c.next.new.self.gaps.items
    c.next.new.self.moved)
    c.if-not-told.false c.in_ok-told.ensures))

pub returns : goal.returns
returns c =
    let its = c.args.self.now.made.items in
    let past : length c.args.self.now.steps ≤ c.loop-n.n = omega (arith, c.len-n-end.ensures, c.loop-n-test.false) in
    let also : length c.args.self.now.made.items ≤ c.loop-n.n = omega (arith, past, c.requires.made) in
    sofar_end c.args.self.now.steps its c.args.first c.args.end c.loop-n.n c.loop-n.others.gaps.items c.loop-n.others.moved c.in_ok-joined.field-0 past also
    c.loop-n.invariant (c.in_ok-joined.ensures ∙ ap (λ xs. xs ++ c.loop-n.others.moved) c.in_ok-front.ensures)
