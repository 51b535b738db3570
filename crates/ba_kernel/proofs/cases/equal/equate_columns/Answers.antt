use Rattle.std.proofs.Common.{ap, get_or, ◌∙◌}
use Rattle.std.specs.List.{zip}
use Rattle.ba_kernel.proofs.BuildLemmas.{learns_all, learns_more}
use Rattle.ba_kernel.proofs.BuildSteps.{pair_lesson, pair_numbers}
use Rattle.ba_kernel.proofs.ZipLemmas.{pair_below, zip_short}
use Rattle.ba_kernel.specs.Effects.{same_at}
use Rattle.ba_facts.specs.Laws.{with_lesson}
use Rattle.ba_facts.specs.declared.term.Lesson.TheVariants.{Same}
use Rattle.ba_kernel.proofs.cases.equal.equate_columns.Goals as goal

pub loop-i-preserved : goal.loop-i-preserved
loop-i-preserved c =
    let left = c.args.left.now in
    let right = c.args.right.now in
    let columns = c.args.columns.now in
    let others = c.args.others.now in
    let i = c.loop-i.i in
    learns_more (same_at left right) (zip columns others) i (get_or columns i 0, get_or others i 0) (Same c.index-left-column.result c.index-right-others.result)
    c.args.new.now c.loop-i.new c.equate.new.self (pair_below columns others i c.requires.wide c.loop-i-test.true)
    (pair_numbers columns others i c.requires.wide c.loop-i-test.true) c.loop-i.invariant
    (pair_lesson left right columns others i c.index-left-column.result c.index-right-others.result c.requires.columns c.requires.others c.requires.wide
    c.loop-i-test.true c.index-left-column.is c.index-right-others.is)
    (c.in_ok-equate.ensures.ok ∙ (ap (λ t. with_lesson c.loop-i.new (Same t c.in_ok-other.other)) c.in_ok-one.ensures ∙
    ap (λ t. with_lesson c.loop-i.new (Same c.index-left-column.result t)) c.in_ok-other.ensures))

pub returns : goal.returns
returns c =
    learns_all (same_at c.args.left.now c.args.right.now) (zip c.args.columns.now c.args.others.now) c.loop-i.i c.args.new.now c.loop-i.new
    (zip_short c.args.columns.now c.args.others.now c.loop-i.i c.loop-i-test.false) c.loop-i.invariant
