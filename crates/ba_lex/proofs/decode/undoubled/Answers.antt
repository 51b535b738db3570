use Rattle.ba_lex.proofs.QuoteLemmas.{at_end, one_more}
use Rattle.ba_lex.proofs.decode.undoubled.Goals as goal
use Rattle.std.proofs.Common.{◌∙◌, ◌++◌, ◌∷◌, [], ap, List, ℕ}

pub loop-before-preserved : goal.loop-before-preserved
loop-before-preserved c = (
  c.after_quote-rest.utf8,
  one_more _ _ c.in-Some.before.now c.in-Some.after.now c.loop-before.rest.now _ _
      (c.in_ok-push_str-2.ensures.bytes ∙ ap (λ (b : List ℕ). b ++ 39 ∷ []) c.in_ok-push_str.ensures.bytes)
      c.after_quote-rest.ensures c.in-Some.ensures.0 c.in-Some.ensures.1 c.loop-before.invariant.1,
)

pub returns : goal.returns
returns c =
    c.from_string.ensures ∙ at_end _ _ c.loop-before.rest.now _ c.in_ok-push_str-3.ensures.bytes c.in_default.ensures c.loop-before.invariant.1
