use Rattle.std.proofs.Common.{◌+◌, ◌∙◌, ap, sym, take, Ok}
use Rattle.std.proofs.lemmas.List.{take_rest}
use Rattle.ba_policy.proofs.EndLemmas.{end_found, end_further, end_none}
use Rattle.ba_policy.proofs.statement.up_to_end.Goals as goal

pub returns-then-is_sign : goal.returns-then-is_sign
returns-then-is_sign c =
    end_found c.args.words.now c.loop-at.at c.index-words-at.result c.loop-at.invariant c.loop-at-test.true c.index-words-at.is (sym c.if-is_sign.ensures)
    ∙ sym (ap (λ rest. Ok (take c.loop-at.at c.args.words.now, rest)) (take_rest c.args.words.now (c.loop-at.at + 1)))

pub loop-at-preserved : goal.loop-at-preserved
loop-at-preserved c = end_further c.args.words.now c.loop-at.at c.index-words-at.result c.loop-at.invariant c.loop-at-test.true c.index-words-at.is (sym c.if-is_sign.ensures)

pub returns : goal.returns
returns c = end_none c.args.words.now c.loop-at.at c.loop-at.invariant c.loop-at-test.false
