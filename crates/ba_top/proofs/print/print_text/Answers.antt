use Rattle.std.proofs.Common.{◌≡◌, Err, Ok, length, arith}
use Rattle.std.proofs.lemmas.Grind.{common_steps}
use Rattle.std.proofs.lemmas.Result.{err_from_is_err_and}
use Rattle.ba_top.proofs.LineLemmas.{line_err, line_then, no_line}
use Rattle.ba_top.proofs.print.print_text.Goals as goal

pub returns-in_err-send : goal.returns-in_err-send
returns-in_err-send g c =
    let p = err_from_is_err_and c.from_residual.result c.from_residual.ensures.1 in
    let s = g.S.Sink.seen c.loop-rest.sink in
    let t = g.S.Sink.seen c.send.new.sink in
    let e = c.in_err-send.field-0.0 in
    rw (p.1, p.2) (c.loop-rest.invariant t (Err e)
    (line_err (Unit {0}) (Unit {0}) c.loop-rest.rest.now c.first_line.result.0.now c.first_line.result.1.now s t e c.first_line.ensures.lines c.in_err-send.ensures))

pub loop-rest-preserved : goal.loop-rest-preserved
loop-rest-preserved g c = λ t r h.
    let s = g.S.Sink.seen c.loop-rest.sink in
    let m = g.S.Sink.seen c.send.new.sink in
    c.loop-rest.invariant t r
    (line_then c.loop-rest.rest.now c.first_line.result.0.now c.first_line.result.1.now s m t r c.first_line.ensures.lines c.in_ok-send.ensures h)

pub returns : goal.returns
returns g c =
    let s = g.S.Sink.seen c.loop-rest.sink in
    let none : length c.loop-rest.rest.now ≡ 0 = grind (arith, common_steps, c.loop-rest-test.ensures) in
    c.loop-rest.invariant s (Ok (tt {0})) (no_line c.loop-rest.rest.now s none)
