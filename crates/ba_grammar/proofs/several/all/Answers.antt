use Rattle.std.proofs.Common.{sym, length}
use Rattle.std.proofs.lemmas.Bool.{eqb-false, eqb-true}
use Rattle.std.proofs.lemmas.Result.{err_from_is_err_and}
use Rattle.ba_grammar.proofs.SeveralLemmas.{all_ends, all_fails, all_goes_on, all_over}
use Rattle.ba_grammar.proofs.several.all.Goals as goal

pub returns-then-is_empty : goal.returns-then-is_empty
returns-then-is_empty g c = all_ends g.T.Element.read_at _ _ c.loop.found c.loop.rest.now _ c.loop.invariant (eqb-true (length c.loop.rest.now) 0 (sym c.if-is_empty.ensures))

pub returns-in_err-next : goal.returns-in_err-next
returns-in_err-next g c =
    let p = err_from_is_err_and c.from_residual.result c.from_residual.ensures.1 in
    rw (p.1, p.2) (all_fails g.T.Element.read_at _ _ c.loop.found c.loop.rest.now _ c.in_err-next.field-0.0 c.loop.invariant c.loop-test.true (eqb-false (length c.loop.rest.now) 0 (sym c.if-is_empty.ensures)) c.in_err-next.ensures)

pub loop-preserved : goal.loop-preserved
loop-preserved g c =
    all_goes_on g.T.Element.read_at _ _ c.loop.found _ c.loop.rest.now c.in_ok-next.behind.now c.in_ok-next.next _ c.loop.invariant c.loop-test.true (eqb-false (length c.loop.rest.now) 0 (sym c.if-is_empty.ensures)) c.in_ok-next.ensures c.in_ok-push.ensures.ok

pub returns-then-not-is_empty : goal.returns-then-not-is_empty
returns-then-not-is_empty g c = all_over g.T.Element.read_at _ _ c.loop.found c.loop.rest.now _ c.loop.invariant c.loop-test.false (eqb-false (length c.loop.rest.now) 0 (sym c.if-not-is_empty.ensures))

pub returns : goal.returns
returns g c = all_ends g.T.Element.read_at _ _ c.loop.found c.loop.rest.now _ c.loop.invariant (eqb-true (length c.loop.rest.now) 0 (sym c.if-not-is_empty.ensures))
