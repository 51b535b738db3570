use Rattle.std.proofs.Common.{◌∙◌, refl, sym}
use Rattle.std.proofs.lemmas.List.{take_rest}
use Rattle.ba_policy.proofs.KeyLemmas.{parted_on, parted_one, parted_over}
use Rattle.ba_policy.proofs.statement.parted.Goals as goal
use Rattle.ba_policy.proofs.statement.parted.Goals.{then-is_keyword+in_ok-push, else-is_keyword}

pub loop-at-preserved : goal.loop-at-preserved
loop-at-preserved c = elim c.if-is_keyword.branch [
  | then-is_keyword+in_ok-push w ↦
      parted_one (λ query. query.now) c.args.words.now c.loop-at.found c.if-is_keyword.found _ c.loop-at.start c.if-is_keyword.start c.loop-at.at c.index-words-at.result c.loop-at.invariant c.loop-at-test.true c.index-words-at.is
      (sym w.if-is_keyword.ensures) (w.found-is ∙ w.in_ok-push.ensures.ok) refl w.start-is
  | else-is_keyword w ↦
      parted_on (λ query. query.now) c.args.words.now c.loop-at.found c.if-is_keyword.found c.loop-at.start c.if-is_keyword.start c.loop-at.at c.index-words-at.result c.loop-at.invariant c.loop-at-test.true c.index-words-at.is
      (sym w.if-is_keyword.ensures) w.found-is w.start-is
]

pub returns : goal.returns
returns c =
    parted_over (λ query. query.now) c.args.words.now c.loop-at.found c.push-2.new.self _ c.loop-at.start c.loop-at.at c.loop-at.invariant c.loop-at-test.false c.in_ok-push-2.ensures.ok (take_rest c.args.words.now c.loop-at.start)
