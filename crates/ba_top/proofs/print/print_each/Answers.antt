use Rattle.std.proofs.Common.{◌∷◌, [], subst, Err, Ok}
use Rattle.std.proofs.lemmas.Result.{err_from_is_err_and}
use Rattle.ba_plan.specs.Sent.{SentLines, WroteLines}
use Rattle.ba_store.specs.Written.{line_of}
use Rattle.ba_top.proofs.PrintLemmas.{each_err, each_none, each_then}
use Rattle.ba_top.proofs.print.print_each.Goals as goal

pub returns-in_err-print_template : goal.returns-in_err-print_template
returns-in_err-print_template g c =
    let p = err_from_is_err_and c.from_residual.result c.from_residual.ensures.1 in
    let s = g.S.Sink.seen c.loop-template.sink in
    let t = g.S.Sink.seen c.print_template.new.sink in
    let e = c.in_err-print_template.field-0.0 in
    rw (p.1, p.2) (c.loop-template.invariant t (Err e)
    (each_err (Unit {0}) (Unit {0}) line_of c.args.templates.now c.loop-template.template-index c.template-item.result s t e c.loop-template-test.true c.template-item.is
    (subst (λ z. SentLines {X = Unit {0}} (line_of z ∷ []) s t (Err e)) c.deref.ensures c.in_err-print_template.ensures)))

pub loop-template-preserved : goal.loop-template-preserved
loop-template-preserved g c = λ t r h.
    let s = g.S.Sink.seen c.loop-template.sink in
    let m = g.S.Sink.seen c.print_template.new.sink in
    c.loop-template.invariant t r
    (each_then line_of c.args.templates.now c.loop-template.template-index c.template-item.result s m t r c.loop-template-test.true c.template-item.is
    (subst (λ z. WroteLines (line_of z ∷ []) s m) c.deref.ensures c.in_ok-print_template.ensures) h)

pub returns : goal.returns
returns g c =
    let s = g.S.Sink.seen c.loop-template.sink in
    c.loop-template.invariant s (Ok (tt {0})) (each_none line_of c.args.templates.now c.loop-template.template-index s c.loop-template-test.false)
