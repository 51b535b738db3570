use Rattle.std.proofs.Common.{◌<◌, ap, arith, length, map, subst, sym, take, ◌∙◌}
use Rattle.std.specs.List.{zip}
use Rattle.ba_kernel.proofs.BuildLemmas.{all_at, head_lesson, learns_all, learns_more, rows_kept}
use Rattle.ba_kernel.proofs.ZipLemmas.{pair_at, pair_below, zip_short}
use Rattle.ba_kernel.proofs.TidyLemmas.{learns_there, learns_unknowns, term_there, there_more}
use Rattle.ba_kernel.specs.Effects.{rows_at, same_of}
use Rattle.ba_facts.specs.Knowing.{IsThere}
use Rattle.ba_facts.specs.Laws.{with_lesson}
use Rattle.ba_kernel.specs.Tidy.{HasTerm}
use Rattle.ba_facts.specs.declared.term.Lesson.TheVariants.{Same}
use Rattle.ba_kernel.proofs.cases.build.equate_all.Goals as goal

pub operand_term-requires : goal.operand_term-requires
operand_term-requires c =
    let old = rows_at c.args.new.now c.args.facts.now in
    let same = rows_kept (map (same_of old) (take c.loop-i.i (zip c.args.head.now c.args.row.now))) c.args.new.now c.loop-i.new c.args.facts.now
    c.loop-i.invariant in
    subst (λ rows. HasTerm rows c.index-head-i.result) (sym same)
    (all_at (HasTerm old) c.args.head.now c.loop-i.i c.index-head-i.result c.requires.terms c.loop-i-test.true c.index-head-i.is)

pub equate-requires : goal.equate-requires
equate-requires c =
    let old = rows_at c.args.new.now c.args.facts.now in
    let found = map (same_of old) (take c.loop-i.i (zip c.args.head.now c.args.row.now)) in
    let there = learns_there found c.args.new.now c.loop-i.new c.loop-i.invariant c.requires.there in
    let counted = learns_unknowns found c.args.new.now c.loop-i.new c.loop-i.invariant in
    let below : c.loop-i.i < length c.args.row.now = omega arith in
    let right = all_at (IsThere c.args.new.now.known) c.args.row.now c.loop-i.i c.index-row-i.result c.requires.row below c.index-row-i.is in (
      term_there c.loop-i.new c.args.facts.now c.index-head-i.result c.in_ok-left.left there c.in_ok-left.ensures,
      there_more c.args.new.now.known c.loop-i.new.known (omega arith) c.in_ok-right.right (subst (IsThere c.args.new.now.known) (sym c.in_ok-right.ensures) right),
    )

pub loop-i-preserved : goal.loop-i-preserved
loop-i-preserved c =
    let old = rows_at c.args.new.now c.args.facts.now in
    let mid = rows_at c.loop-i.new c.args.facts.now in
    let pairs = zip c.args.head.now c.args.row.now in
    let same = rows_kept (map (same_of old) (take c.loop-i.i pairs)) c.args.new.now c.loop-i.new c.args.facts.now c.loop-i.invariant in
    let lesson = head_lesson old mid c.index-head-i.result c.in_ok-left.left c.index-row-i.result same c.in_ok-left.ensures in
    learns_more (same_of old) pairs c.loop-i.i (c.index-head-i.result, c.index-row-i.result) (Same c.in_ok-left.left c.index-row-i.result) c.args.new.now
    c.loop-i.new c.equate.new.self (pair_below c.args.head.now c.args.row.now c.loop-i.i c.requires.wide c.loop-i-test.true)
    (pair_at c.args.head.now c.args.row.now c.loop-i.i c.index-head-i.result c.index-row-i.result c.requires.wide c.loop-i-test.true c.index-head-i.is
    c.index-row-i.is) c.loop-i.invariant lesson
    (c.in_ok-equate.ensures.ok ∙ ap (λ t. with_lesson c.loop-i.new (Same c.in_ok-left.left t)) c.in_ok-right.ensures)

pub returns : goal.returns
returns c =
    learns_all (same_of (rows_at c.args.new.now c.args.facts.now)) (zip c.args.head.now c.args.row.now) c.loop-i.i c.args.new.now c.loop-i.new
    (zip_short c.args.head.now c.args.row.now c.loop-i.i c.loop-i-test.false) c.loop-i.invariant
