use Rattle.ba_model.specs.Meaning.{InAnswer}
use Rattle.ba_refute.proofs.LoopLemmas.{ended, passed, refused}
use Rattle.ba_refute.proofs.within.all_in.Goals as goal

pub returns-then-not-found : goal.returns-then-not-found
returns-then-not-found c = refused (InAnswer c.args.query.now c.args.ctx.now c.args.database.now) c.args.rows.now c.loop-row.row-index c.row-item.result c.in_ok-found.found c.loop-row-test.true c.row-item.is c.in_ok-found.ensures c.if-not-found.true

pub loop-row-preserved : goal.loop-row-preserved
loop-row-preserved c = passed (InAnswer c.args.query.now c.args.ctx.now c.args.database.now) c.args.rows.now c.loop-row.row-index c.row-item.result c.in_ok-found.found c.loop-row-test.true c.row-item.is c.in_ok-found.ensures c.if-not-found.false c.loop-row.invariant

pub returns : goal.returns
returns c = ended (InAnswer c.args.query.now c.args.ctx.now c.args.database.now) c.args.rows.now c.loop-row.row-index c.loop-row-test.false c.loop-row.invariant
