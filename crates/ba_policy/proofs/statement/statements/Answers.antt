use Rattle.std.proofs.Common.{◌∷◌, [], ◌∙◌, ap, map, sym, length}
use Rattle.std.proofs.lemmas.Bool.{eqb-false, eqb-true}
use Rattle.std.proofs.lemmas.List.{map-append}
use Rattle.std.proofs.lemmas.Result.{err_from_is_err_and}
use Rattle.ba_grammar.proofs.SeveralLemmas.{all_ends, all_fails, all_goes_on, all_over}
use Rattle.ba_policy.specs.Reader.{statement_at, statements_at}
use Rattle.ba_policy.specs.Statements.{seen}
use Rattle.ba_policy.proofs.statement.statements.Goals as goal

pub returns-then-is_empty : goal.returns-then-is_empty
returns-then-is_empty c =
    all_ends statement_at (length c.args.words.now) c.loop.counter (map seen c.loop.found) c.loop.rest.now (statements_at c.args.words.now) c.loop.invariant (eqb-true (length c.loop.rest.now) 0 (sym c.if-is_empty.ensures))

pub returns-in_err-next : goal.returns-in_err-next
returns-in_err-next c =
    let p = err_from_is_err_and c.from_residual.result c.from_residual.ensures.1 in
    rw (p.1, p.2) (all_fails statement_at (length c.args.words.now) c.loop.counter (map seen c.loop.found) c.loop.rest.now (statements_at c.args.words.now) c.in_err-next.field-0.0 c.loop.invariant c.loop-test.true (eqb-false (length c.loop.rest.now) 0 (sym c.if-is_empty.ensures)) c.in_err-next.ensures)

pub loop-preserved : goal.loop-preserved
loop-preserved c =
    all_goes_on statement_at (length c.args.words.now) c.loop.counter (map seen c.loop.found) (map seen c.push.new.self) c.loop.rest.now c.in_ok-next.behind.now (seen c.in_ok-next.next) (statements_at c.args.words.now) c.loop.invariant c.loop-test.true
    (eqb-false (length c.loop.rest.now) 0 (sym c.if-is_empty.ensures)) c.in_ok-next.ensures (ap (map seen) c.in_ok-push.ensures.ok ∙ map-append seen c.loop.found (c.in_ok-next.next ∷ []))

pub returns-then-not-is_empty : goal.returns-then-not-is_empty
returns-then-not-is_empty c =
    all_over statement_at (length c.args.words.now) c.loop.counter (map seen c.loop.found) c.loop.rest.now (statements_at c.args.words.now) c.loop.invariant c.loop-test.false (eqb-false (length c.loop.rest.now) 0 (sym c.if-not-is_empty.ensures))

pub returns : goal.returns
returns c =
    all_ends statement_at (length c.args.words.now) c.loop.counter (map seen c.loop.found) c.loop.rest.now (statements_at c.args.words.now) c.loop.invariant (eqb-true (length c.loop.rest.now) 0 (sym c.if-not-is_empty.ensures))
