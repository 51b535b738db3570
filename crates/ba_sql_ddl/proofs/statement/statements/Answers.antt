use Rattle.std.proofs.Common.{length, sym}
use Rattle.std.proofs.lemmas.Bool.{eqb-false, eqb-true}
use Rattle.std.proofs.lemmas.Result.{err_from_is_err_and}
use Rattle.ba_sql_ddl.specs.Written.{seen_text}
use Rattle.ba_sql_ddl.proofs.TextLemmas.{text_ends, text_fails, text_goes_on, text_over}
use Rattle.ba_sql_ddl.proofs.statement.statements.Goals as goal

pub returns-then-is_empty : goal.returns-then-is_empty
returns-then-is_empty c =
    text_ends (length c.args.words.now) c.loop.counter (seen_text c.loop.text) c.loop.rest.now c.args.words.now c.loop.invariant (eqb-true (length c.loop.rest.now) 0 (sym c.if-is_empty.ensures))

pub returns-in_err-rest : goal.returns-in_err-rest
returns-in_err-rest c =
    let p = err_from_is_err_and c.from_residual.result c.from_residual.ensures.1 in
    rw (p.1, p.2) (text_fails (length c.args.words.now) c.loop.counter (seen_text c.loop.text) c.loop.rest.now c.args.words.now c.in_err-rest.field-0.0 c.loop.invariant c.loop-test.true (eqb-false (length c.loop.rest.now) 0 (sym c.if-is_empty.ensures)) c.in_err-rest.ensures)

pub loop-preserved : goal.loop-preserved
loop-preserved c =
    text_goes_on (length c.args.words.now) c.loop.counter (seen_text c.loop.text) (seen_text c.add_statement.new.text) c.loop.rest.now c.in_ok-rest.rest.now c.args.words.now c.loop.invariant c.loop-test.true (eqb-false (length c.loop.rest.now) 0 (sym c.if-is_empty.ensures)) c.in_ok-rest.ensures

pub returns-then-not-is_empty : goal.returns-then-not-is_empty
returns-then-not-is_empty c =
    text_over (length c.args.words.now) c.loop.counter (seen_text c.loop.text) c.loop.rest.now c.args.words.now c.loop.invariant c.loop-test.false (eqb-false (length c.loop.rest.now) 0 (sym c.if-not-is_empty.ensures))

pub returns : goal.returns
returns c =
    text_ends (length c.args.words.now) c.loop.counter (seen_text c.loop.text) c.loop.rest.now c.args.words.now c.loop.invariant (eqb-true (length c.loop.rest.now) 0 (sym c.if-not-is_empty.ensures))
