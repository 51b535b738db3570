use Rattle.std.proofs.Common.{◌≡◌, ◌<◌, subst, length, ℕ, Err, Ok, arith}
use Rattle.std.proofs.lemmas.Grind.{common_steps}
use Rattle.std.proofs.lemmas.Result.{err_from_is_err_and}
use Rattle.ba_plan.proofs.SendingLines.{Goes, goes_done, goes_step, goes_err, lines_one, some_of, nil_of}
use Rattle.ba_plan.proofs.sink.send.Goals as goal

pub returns-in_err-count : goal.returns-in_err-count
returns-in_err-count g c =
    let p = err_from_is_err_and c.from_residual.result c.from_residual.ensures.1 in
    let s = g.S.Sink.seen c.loop-rest.sink in
    let t = g.S.Sink.seen c.write.new.self in
    let e = c.in_err-count.field-0.0 in
    let rest = c.loop-rest.rest.now in
    let some : 0 < length rest = grind (arith, common_steps, c.loop-rest-test.ensures) in
    let wrote = c.in_err-count.ensures in
    rw (p.1, p.2) (lines_one {X = Unit {0}} c.args.line.now (g.S.Sink.seen c.args.sink.now) t (Err e)
    (c.loop-rest.invariant t (Err e)
    (goes_err (Unit {0}) ℕ s t rest e (some_of rest some) wrote.pieces wrote.written wrote.faults.0 wrote.failed)))

pub loop-rest-preserved : goal.loop-rest-preserved
loop-rest-preserved g c = λ t r h.
    let s = g.S.Sink.seen c.loop-rest.sink in
    let m = g.S.Sink.seen c.write.new.self in
    let rest = c.loop-rest.rest.now in
    let n = c.in_ok-count.count in
    let some : 0 < length rest = grind (arith, common_steps, c.loop-rest-test.ensures) in
    let wrote = c.in_ok-count.ensures in
    c.loop-rest.invariant t r
    (goes_step s m t rest n r (some_of rest some) (wrote.some some) wrote.pieces wrote.written wrote.failed
    (subst (λ z. Goes z m t r) c.split_at.ensures.back h))

pub returns : goal.returns
returns g c =
    let s = g.S.Sink.seen c.loop-rest.sink in
    let rest = c.loop-rest.rest.now in
    let none : length rest ≡ 0 = grind (arith, common_steps, c.loop-rest-test.ensures) in
    lines_one {X = Unit {0}} c.args.line.now (g.S.Sink.seen c.args.sink.now) s (Ok (tt {0}))
    (c.loop-rest.invariant s (Ok (tt {0})) (goes_done rest s (nil_of rest none)))
