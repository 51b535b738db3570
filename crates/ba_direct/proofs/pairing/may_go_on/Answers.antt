use Rattle.ba_direct.proofs.SearchLemmas.{on_false}
use Rattle.ba_direct.proofs.SettledLemmas.{may_be_completed}
use Rattle.ba_direct.proofs.pairing.may_go_on.Goals as goal

pub returns : goal.returns
returns c =
    on_false c.may_cover.result _
    (λ no.
    record {
      none = λ more h.
          let yes = may_be_completed c.args.ctx.now c.args.to.now more c.args.view.now c.args.part.now h in
          let told = c.may_cover.ensures in
          cc;
    })
