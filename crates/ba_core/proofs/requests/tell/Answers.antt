use Rattle.std.proofs.Common.{◌∙◌, ap, sym}
use Rattle.std.specs.Option.{option_copied_mut}
use Rattle.ba_core.specs.declared.opened.Opened.{Opened}
use Rattle.ba_core.proofs.RequestLemmas.{after_error, unwritten}
use Rattle.ba_core.proofs.requests.tell.Goals as goal

pub returns-in_err-push-in-Some-clause-err : goal.returns-in_err-push-in-Some-clause-err
returns-in_err-push-in-Some-clause-err c =
    let found = c.in-Some.asker.now in
    let written : Opened = record found { trace = c.push.new.self } in
    after_error c.from_residual.result
    (unwritten c.args.requests.now (c.get_mut.follows.lender written) c.args.k found written
    (sym c.get_mut.ensures.value ∙ ap option_copied_mut c.in-Some.is)
    (ap (λ t. let it : Opened = record found { trace = t } in it) c.in_err-push-in-Some.ensures.err)
    (c.get_mut.follows.holds written).0)
