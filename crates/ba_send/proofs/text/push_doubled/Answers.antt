use Rattle.std.proofs.Common.{◌∙◌, ◌++◌, ◌∷◌, [], ap, List, ℕ}
use Rattle.ba_sql_print.proofs.DoubledLemmas.{at_end, behind_quote, one_more}
use Rattle.ba_send.proofs.text.push_doubled.Goals as goal

pub loop-before-preserved : goal.loop-before-preserved
loop-before-preserved c = (
  behind_quote c.in-Some.before.now c.in-Some.after.now c.loop-before.rest.now c.loop-before.invariant.0 c.in-Some.ensures.1,
  one_more _ _ c.in-Some.before.now c.in-Some.after.now c.loop-before.rest.now _
      (c.in_ok-push_str-2.ensures.bytes ∙ ap (λ (b : List ℕ). b ++ 39 ∷ 39 ∷ []) c.in_ok-push_str.ensures.bytes)
      c.in-Some.ensures.0 c.in-Some.ensures.1 c.loop-before.invariant.1,
)

pub returns : goal.returns
returns c = at_end _ _ c.loop-before.rest.now _ c.in_ok-push_str-3.ensures.bytes c.in_default.ensures c.loop-before.invariant.1
