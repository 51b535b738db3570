use Rattle.std.proofs.Common.{ap, map, ◌∙◌}
use Rattle.std.specs.List.{zip}
use Rattle.std.proofs.lemmas.List.{take_all}
use Rattle.ba_kernel.proofs.ZipLemmas.{pair_at, pair_below, zip_short}
use Rattle.ba_kernel.proofs.BuildSteps.{pairs_more}
use Rattle.ba_kernel.specs.Effects.{same_pair, with_lessons}
use Rattle.ba_facts.specs.Laws.{with_lesson}
use Rattle.ba_facts.specs.declared.term.Lesson.TheVariants.{Same}
use Rattle.ba_kernel.proofs.cases.equal.equate_rows.Goals as goal

pub loop-i-preserved : goal.loop-i-preserved
loop-i-preserved c =
    let left = c.args.left.now in
    let right = c.args.right.now in
    pairs_more same_pair (zip left right) c.loop-i.i (c.index-left-i.result, c.index-right-i.result) c.args.new.now c.loop-i.new c.equate.new.self
    (pair_below left right c.loop-i.i c.requires.wide c.loop-i-test.true)
    (pair_at left right c.loop-i.i c.index-left-i.result c.index-right-i.result c.requires.wide c.loop-i-test.true c.index-left-i.is c.index-right-i.is)
    c.loop-i.invariant
    (c.in_ok-equate.ensures.ok ∙ (ap (λ t. with_lesson c.loop-i.new (Same t c.in_ok-other.other)) c.in_ok-one.ensures ∙
    ap (λ t. with_lesson c.loop-i.new (Same c.index-left-i.result t)) c.in_ok-other.ensures))

pub returns : goal.returns
returns c =
    let pairs = zip c.args.left.now c.args.right.now in
    c.loop-i.invariant ∙ ap (λ xs. with_lessons c.args.new.now (map same_pair xs))
    (take_all c.loop-i.i pairs (zip_short c.args.left.now c.args.right.now c.loop-i.i c.loop-i-test.false))
