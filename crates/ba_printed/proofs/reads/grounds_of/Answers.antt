use Rattle.std.proofs.Common.{◌<◌, subst}
use Rattle.std.proofs.lemmas.Result.{err_from_is_err_and}
use Rattle.ba_printed.proofs.GroundLemmas.{grounds_fail, grounds_go_on}
use Rattle.ba_printed.proofs.reads.grounds_of.Goals as goal

pub returns-in_err-ground : goal.returns-in_err-ground
returns-in_err-ground c =
    let p = err_from_is_err_and c.from_residual.result c.from_residual.ensures.1 in
    let right = subst (λ n. c.loop-place.place < n) c.requires.even c.loop-place-test.true in
    rw (p.1, p.2)
    (grounds_fail c.args.params.now c.args.names.now c.args.proofs.now c.loop-place.place c.loop-place.grounds c.index-names-place.result c.index-proofs-place.result c.in_err-ground.field-0.0
    c.loop-place.invariant c.loop-place-test.true right c.index-names-place.is c.index-proofs-place.is c.in_err-ground.ensures)

pub loop-place-preserved : goal.loop-place-preserved
loop-place-preserved c =
    let right = subst (λ n. c.loop-place.place < n) c.requires.even c.loop-place-test.true in
    grounds_go_on c.args.params.now c.args.names.now c.args.proofs.now c.loop-place.place c.loop-place.grounds _ c.index-names-place.result c.index-proofs-place.result c.in_ok-ground.ground
    c.loop-place.invariant c.loop-place-test.true right c.index-names-place.is c.index-proofs-place.is c.in_ok-ground.ensures c.in_ok-push.ensures.ok
