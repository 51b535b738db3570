use Rattle.std.proofs.Common.{sym, length}
use Rattle.ba_lex.specs.declared.token.Sign.TheVariants.{Comma}
use Rattle.std.proofs.lemmas.List.{take_rest}
use Rattle.std.proofs.lemmas.Result.{err_from_is_err_and}
use Rattle.ba_grammar.proofs.SeveralLemmas.{fails, goes_on, over, stops}
use Rattle.ba_grammar.proofs.several.listed.Goals as goal

pub returns-then-not-begins_with_sign : goal.returns-then-not-begins_with_sign
returns-then-not-begins_with_sign g c =
    stops (g.W.Signed.sign_test Comma) g.T.Element.read_at (length c.args.words.now) c.loop.counter c.loop.found c.loop.rest.now _ c.loop.invariant c.loop-test.true (sym c.if-not-begins_with_sign.ensures)

pub returns-in_err-next : goal.returns-in_err-next
returns-in_err-next g c =
    let p = err_from_is_err_and c.from_residual-in_err-next.result c.from_residual-in_err-next.ensures.1 in
    let read = rw (take_rest c.loop.rest.now 1) at c.in_err-next.ensures in
    rw (p.1, p.2) (fails (g.W.Signed.sign_test Comma) g.T.Element.read_at (length c.args.words.now) c.loop.counter c.loop.found c.loop.rest.now _ c.in_err-next.field-0.0 c.loop.invariant c.loop-test.true (sym c.if-not-begins_with_sign.ensures) read)

pub loop-preserved : goal.loop-preserved
loop-preserved g c =
    let read = rw (take_rest c.loop.rest.now 1) at c.in_ok-next.ensures in
    goes_on (g.W.Signed.sign_test Comma) g.T.Element.read_at (length c.args.words.now) c.loop.counter c.loop.found _ c.loop.rest.now c.in_ok-next.behind.now c.in_ok-next.next _ c.loop.invariant c.loop-test.true (sym c.if-not-begins_with_sign.ensures) read c.in_ok-push-2.ensures.ok

pub returns : goal.returns
returns g c = over (g.W.Signed.sign_test Comma) g.T.Element.read_at (length c.args.words.now) c.loop.counter c.loop.found c.loop.rest.now _ c.loop.invariant c.loop-test.false
