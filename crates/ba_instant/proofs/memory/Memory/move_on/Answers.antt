use Rattle.std.proofs.Common.{◌≡◌, ◌∙◌, ◌≤◌, arith, inl, inr, length, subst, sym}
use Rattle.std.proofs.lemmas.List.{length-set}
use Rattle.std.specs.Prelude.{Some, slice_get}
use Rattle.ba_kernel.specs.Courses.{IsOpen, branch_of}
use Rattle.ba_instant.proofs.ToldLemmas.{remembered, told_more, told_out, told_set, was_at}
use Rattle.ba_instant.specs.ToldSteps.{StaysTold}
use Rattle.ba_instant.proofs.memory.Memory.move_on.Goals as goal

pub loop-number-init : goal.loop-number-init
loop-number-init c =
    let there = c.requires.there in
    let kept = length-set c.args.self.now.each.items c.branch-own.result c.replace-told.new.dest in
    let count = c.len-number.ensures in
    record {
      own = omega (arith, there, count, kept);
      count = omega (arith, count);
      told = told_out c.args.then.now c.args.step.now c.args.self.now c.branch-own.result c.replace-told.new.dest c.branch-own.ensures (c.replace-told.ensures.after ∙ c.none.ensures) c.requires;
    }

pub told_after-requires : goal.told_after-requires
told_after-requires c = λ b open_.
    let there : slice_get c.args.self.now.each.items (branch_of c.args.step.now) ≡ Some c.replace-told.result =
    was_at c.args.self.now.each.items c.branch-own.result (branch_of c.args.step.now) c.replace-told.result c.index_mut.result.now c.branch-own.ensures c.requires.there c.index_mut.ensures.value c.replace-told.ensures.value in
    let past : length c.args.self.now.each.items ≤ c.loop-number.number = omega (arith, c.loop-number.auto.number, c.len-number.ensures, length-set c.args.self.now.each.items c.branch-own.result c.replace-told.new.dest) in
    subst (StaysTold c.args.then.now.problem b c.args.step.now) (sym c.in_ok-copy.ensures) (c.requires.cases c.loop-number.number b c.replace-told.result (inr past) open_ there)

pub loop-number-preserved : goal.loop-number-preserved
loop-number-preserved c =
    let more =
    told_more c.args.then.now c.loop-number.self.each.items c.push.new.self.items c.loop-number.number c.in_ok-further.further c.in_ok-push.ensures.items c.loop-number.invariant.count c.loop-number.invariant.told
    c.in_ok-further.ensures in
    record { own = omega (arith, c.loop-number.invariant.own); count = more.0; told = more.1 }

pub told_after-requires-2 : goal.told_after-requires-2
told_after-requires-2 c = λ b open_.
    let there : slice_get c.args.self.now.each.items (branch_of c.args.step.now) ≡ Some c.replace-told.result =
    was_at c.args.self.now.each.items c.branch-own.result (branch_of c.args.step.now) c.replace-told.result c.index_mut.result.now c.branch-own.ensures c.requires.there c.index_mut.ensures.value c.replace-told.ensures.value in
    c.requires.cases c.branch-step.result b c.replace-told.result (inl c.branch-step.ensures) open_ there

pub returns : goal.returns
returns c =
    remembered c.args.then.now _
    (omega (arith, length-set c.loop-number.self.each.items c.branch-own.result c.in_ok-first.first, c.loop-number.invariant.count, c.loop-number-test.false, c.loop-number.auto.number-end, c.len-number.ensures, length-set c.args.self.now.each.items c.branch-own.result c.replace-told.new.dest, c.requires.within, c.branches-number-end.ensures))
    (told_set c.args.then.now c.loop-number.self.each.items c.branch-own.result c.in_ok-first.first c.loop-number.invariant.told
    (λ b open_. c.in_ok-first.ensures b (subst (λ n. IsOpen c.args.then.now.slots n b) (c.branch-own.ensures ∙ sym c.branch-step.ensures) open_)))
