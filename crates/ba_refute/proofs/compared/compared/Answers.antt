use Rattle.std.proofs.Common.{◌≡◌, ◌+◌, List, subst, sym}
use Rattle.ba_facts.specs.declared.term.Lesson.{Lesson}
use Rattle.ba_refute.specs.Compared.{HaveMore, TellsOfClass}
use Rattle.ba_refute.proofs.ComparedLemmas.{HaveTold, told_all, told_next}
use Rattle.ba_refute.proofs.compared.compared.Goals as goal

pub loop-lesson-preserved : goal.loop-lesson-preserved
loop-lesson-preserved c =
    let k = c.args.known.now in
    let lessons : List Lesson = c.learned-lesson-items.result.now in
    let same : lessons ≡ k.learned = c.learned-lesson-items.ensures in
    let i = c.loop-lesson.lesson-index in
    let lesson : Lesson = c.lesson-item.result in
    let found = c.loop-lesson.found.keys in
    let new = c.add_told.new.found.keys in
    let more : HaveMore k (TellsOfClass k lesson) found new =
    subst (λ (it : Lesson). HaveMore k (TellsOfClass k it) found new) c.deref.ensures c.in_ok-add_told.ensures in
    subst (λ (ls : List Lesson). HaveTold k ls (i + 1) new) same
    (told_next k lessons i lesson found new c.loop-lesson-test.true c.lesson-item.is
    (subst (λ (ls : List Lesson). HaveTold k ls i found) (sym same) c.loop-lesson.invariant) more)

pub returns : goal.returns
returns c =
    let k = c.args.known.now in
    let lessons : List Lesson = c.learned-lesson-items.result.now in
    let same : lessons ≡ k.learned = c.learned-lesson-items.ensures in
    told_all k lessons c.loop-lesson.lesson-index c.loop-lesson.found.keys same c.loop-lesson-test.false
    (subst (λ (ls : List Lesson). HaveTold k ls c.loop-lesson.lesson-index c.loop-lesson.found.keys) (sym same) c.loop-lesson.invariant)
