use Rattle.std.proofs.lemmas.Result.{err_from_is_err_and}
use Rattle.serde_json.specs.View.{view}
use Rattle.ba_proof.proofs.EachLemmas.{each_fails, each_goes_on}
use Rattle.ba_printed.specs.Reading.{unnamed_of}
use Rattle.ba_printed.proofs.reads.proofs_of.Goals as goal

pub returns-in_err-ground : goal.returns-in_err-ground
returns-in_err-ground c =
    let p = err_from_is_err_and c.from_residual.result c.from_residual.ensures.1 in
    rw (p.1, p.2) (each_fails view (unnamed_of c.args.params.now) c.args.proofs.now c.loop-proof.proof-index c.loop-proof.grounds c.proof-item.result c.in_err-ground.field-0.0 c.loop-proof.invariant c.loop-proof-test.true c.proof-item.is c.in_err-ground.ensures)

pub loop-proof-preserved : goal.loop-proof-preserved
loop-proof-preserved c =
    each_goes_on view (unnamed_of c.args.params.now) c.args.proofs.now c.loop-proof.proof-index c.loop-proof.grounds _ c.proof-item.result c.in_ok-ground.ground c.loop-proof.invariant c.loop-proof-test.true c.proof-item.is c.in_ok-ground.ensures c.in_ok-push.ensures.ok
