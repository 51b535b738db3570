use Rattle.std.proofs.Common.{List, ap, ◌∙◌}
use Rattle.std.specs.List.{slice_get}
use Rattle.std.proofs.lemmas.Option.{slice_get_within}
use Rattle.ba_model.specs.declared.query.Op.TheVariants.{Eq, NotNull}
use Rattle.ba_facts.specs.Known.{seen}
use Rattle.ba_facts.specs.Telling.{atom, told}
use Rattle.ba_facts.specs.declared.term.Lesson.TheVariants.{Same}
use Rattle.ba_facts.specs.declared.term.Term.{Term}
use Rattle.ba_facts.proofs.LessonLemmas.{denies_equal, denies_not_null, joins_same, keeps_equal}
use Rattle.ba_facts.proofs.web.Web.equate.Goals as goal

pub deny-requires-clause-some : goal.deny-requires-clause-some
deny-requires-clause-some c =
    let k = c.requires.known in
    let a = seen c.args.a in
    let b = seen c.args.b in
    let e = c.requires.unknowns_are in
    record {
      known = told k (Same a b);
      web = c.in_ok-join.ensures.ok k (told k (Same a b)) a b (c.number-2.ensures.numbers _ _ c.in_ok-x.ensures.found) c.in_ok-y.ensures.found (joins_same k a b) (c.number-2.ensures.kept k e c.requires.right (c.number.ensures.kept k e c.requires.left c.requires.web));
    }

pub deny-requires-clause-left : goal.deny-requires-clause-left
deny-requires-clause-left c =
    slice_get_within _ c.in_ok-x.x (seen c.args.a) (ap (λ (ts : List Term). slice_get ts c.in_ok-x.x) c.join.ensures.names ∙ c.number-2.ensures.numbers _ _ c.in_ok-x.ensures.found)

pub deny-requires-clause-right : goal.deny-requires-clause-right
deny-requires-clause-right c =
    slice_get_within _ c.in_ok-y.y (seen c.args.b) (ap (λ (ts : List Term). slice_get ts c.in_ok-y.y) c.join.ensures.names ∙ c.in_ok-y.ensures.found)

pub returns-clause-ok : goal.returns-clause-ok
returns-clause-ok c = λ k e left right w.
    let a = seen c.args.a in
    let b = seen c.args.b in
    let x = c.number-2.ensures.numbers _ _ c.in_ok-x.ensures.found in
    let y = c.in_ok-y.ensures.found in
    let united = told k (Same a b) in
    c.deny.ensures united (told united (atom NotNull a a)) (told k (atom Eq a b)) a b (ap (λ (ts : List Term). slice_get ts c.in_ok-x.x) c.join.ensures.names ∙ x) (ap (λ (ts : List Term). slice_get ts c.in_ok-y.y) c.join.ensures.names ∙ y) (denies_not_null united a a) (denies_equal k a b) (keeps_equal k a b)
    (c.in_ok-join.ensures.ok k united a b x y (joins_same k a b) (c.number-2.ensures.kept k e right (c.number.ensures.kept k e left w)))
