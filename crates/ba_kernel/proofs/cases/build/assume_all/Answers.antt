use Rattle.std.proofs.Common.{map, take}
use Rattle.ba_kernel.proofs.BuildLemmas.{atom_lesson, learns_all, learns_more, rows_kept}
use Rattle.ba_kernel.proofs.TidyLemmas.{learns_there, term_there}
use Rattle.ba_kernel.specs.Effects.{lesson_of, rows_at}
use Rattle.ba_facts.specs.declared.term.Lesson.TheVariants.{Holds}
use Rattle.ba_kernel.proofs.cases.build.assume_all.Goals as goal

pub assume-requires : goal.assume-requires
assume-requires c =
    let there = learns_there (map (lesson_of (rows_at c.args.new.now c.args.facts.now)) (take c.loop-atom.atom-index c.args.conds.now)) c.args.new.now
    c.loop-atom.new c.loop-atom.invariant c.requires.there in (
      term_there c.loop-atom.new c.args.facts.now c.atom-item.result.left c.in_ok-left.left there c.in_ok-left.ensures,
      term_there c.loop-atom.new c.args.facts.now c.atom-item.result.right c.in_ok-right.right there c.in_ok-right.ensures,
    )

pub loop-atom-preserved : goal.loop-atom-preserved
loop-atom-preserved c =
    let old = rows_at c.args.new.now c.args.facts.now in
    let mid = rows_at c.loop-atom.new c.args.facts.now in
    let same = rows_kept (map (lesson_of old) (take c.loop-atom.atom-index c.args.conds.now)) c.args.new.now c.loop-atom.new c.args.facts.now
    c.loop-atom.invariant in
    learns_more (lesson_of old) c.args.conds.now c.loop-atom.atom-index c.atom-item.result
    (Holds (record { op = c.atom-item.result.op; left = c.in_ok-left.left; right = c.in_ok-right.right })) c.args.new.now c.loop-atom.new c.assume.new.self
    c.loop-atom-test.true c.atom-item.is c.loop-atom.invariant
    (atom_lesson old mid c.atom-item.result c.in_ok-left.left c.in_ok-right.right same c.in_ok-left.ensures c.in_ok-right.ensures)
    c.in_ok-assume.ensures.ok

pub returns : goal.returns
returns c =
    learns_all (lesson_of (rows_at c.args.new.now c.args.facts.now)) c.args.conds.now c.loop-atom.atom-index c.args.new.now c.loop-atom.new
    c.loop-atom-test.false c.loop-atom.invariant
