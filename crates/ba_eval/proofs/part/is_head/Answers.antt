use Rattle.ba_eval.proofs.HeadLemmas.{heads_differ, heads_more}
use Rattle.ba_eval.proofs.part.is_head.Goals as goal

pub returns-then-not-has_value : goal.returns-then-not-has_value
returns-then-not-has_value c = (
  λ e. cc,
  λ e. absurd (heads_differ _ _ _ _ _ _ c.get.ensures c.get-in-loop-i.ensures (λ v. let t = c.has_value.ensures.1 v in cc) e),
)

pub loop-i-preserved : goal.loop-i-preserved
loop-i-preserved c =
    heads_more _ _ _ _ _ _ c.get.ensures c.get-in-loop-i.ensures (c.has_value.ensures.0 c.if-not-has_value.false) c.loop-i.invariant
