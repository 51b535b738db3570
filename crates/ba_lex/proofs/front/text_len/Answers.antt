use Rattle.std.proofs.Common.{◌≡◌, ◌∙◌, sym, ap, arith, Some, length}
use Rattle.ba_lex.proofs.TextLemmas.{text_on, text_over, text_stop}
use Rattle.ba_lex.proofs.front.text_len.Goals as goal

pub loop-at-preserved : goal.loop-at-preserved
loop-at-preserved c = sym (text_on c.args.rest.now c.loop-at.at c.loop-at.after_quote c.in-Some.is_quote c.loop-at-test.true c.in-Some.ensures) ∙ c.loop-at.invariant

pub returns-in-None-clause-len : goal.returns-in-None-clause-len
returns-in-None-clause-len c = sym (text_stop c.args.rest.now c.loop-at.at c.loop-at.after_quote c.loop-at-test.true c.in-None.ensures) ∙ c.loop-at.invariant

pub returns-then-after_quote-clause-len : goal.returns-then-after_quote-clause-len
returns-then-after_quote-clause-len c =
    let at : c.loop-at.at ≡ length c.args.rest.now = omega arith in
    let over = sym (text_over c.args.rest.now c.loop-at.at c.loop-at.after_quote c.loop-at-test.false) ∙ c.loop-at.invariant in
    ap Some (sym at) ∙ rw c.if-after_quote.true at over

pub returns-clause-len : goal.returns-clause-len
returns-clause-len c =
    let over = sym (text_over c.args.rest.now c.loop-at.at c.loop-at.after_quote c.loop-at-test.false) ∙ c.loop-at.invariant in
    rw c.if-after_quote.false at over
