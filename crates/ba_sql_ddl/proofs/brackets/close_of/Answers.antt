use Rattle.std.proofs.Common.{ℕ, ◌+◌, subst, sym}
use Rattle.ba_sql_ddl.proofs.BracketLemmas.{CloseAt, close_closes, close_found, close_further, close_opens, close_over}
use Rattle.ba_sql_ddl.proofs.brackets.close_of.Goals as goal
use Rattle.ba_sql_ddl.proofs.brackets.close_of.Goals.{then-is_sign, else-is_sign+then-is_sign-2+else-depth-eq0, else-is_sign+else-is_sign-2}

pub returns-then-depth-eq0-clause-at : goal.returns-then-depth-eq0-clause-at
returns-then-depth-eq0-clause-at c =
    close_found c.args.words.now c.loop-at.depth c.loop-at.at c.index-words-at.result c.loop-at.invariant c.loop-at-test.true c.index-words-at.is (sym c.if-is_sign.ensures) (sym c.if-is_sign-2.ensures) c.if-depth-eq0.true

pub loop-at-preserved : goal.loop-at-preserved
loop-at-preserved c = elim c.if-is_sign.branch [
  | then-is_sign w ↦
      close_opens c.args.words.now c.loop-at.depth c.if-is_sign.depth c.loop-at.at c.index-words-at.result c.loop-at.invariant c.loop-at-test.true c.index-words-at.is (sym w.if-is_sign.ensures) w.depth-is
  | else-is_sign+then-is_sign-2+else-depth-eq0 w ↦
      close_closes c.args.words.now c.loop-at.depth c.if-is_sign.depth c.loop-at.at c.index-words-at.result c.loop-at.invariant c.loop-at-test.true c.index-words-at.is (sym w.if-is_sign.ensures) (sym w.if-is_sign-2.ensures) w.if-depth-eq0.false w.depth-is
  | else-is_sign+else-is_sign-2 w ↦
      subst (λ (d : ℕ). CloseAt c.args.words.now d (c.loop-at.at + 1)) (sym w.depth-is)
      (close_further c.args.words.now c.loop-at.depth c.loop-at.at c.index-words-at.result c.loop-at.invariant c.loop-at-test.true c.index-words-at.is (sym w.if-is_sign.ensures) (sym w.if-is_sign-2.ensures))
]

pub returns-clause-at : goal.returns-clause-at
returns-clause-at c = close_over c.args.words.now c.loop-at.depth c.loop-at.at c.loop-at.invariant c.loop-at-test.false c.loop-at.auto.at-end
