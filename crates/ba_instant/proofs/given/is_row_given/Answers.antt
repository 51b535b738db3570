use Rattle.std.proofs.Common.{◌≡◌, subst}
use Rattle.ba_instant.proofs.ChoiceLemmas.{gives_some}
use Rattle.ba_instant.specs.Givens.{GivesSome}
use Rattle.ba_instant.proofs.given.is_row_given.Goals as goal

pub returns : goal.returns
returns c = λ it.
    let same : c.deref-3.result.now ≡ c.args.problem.now.policy.schema = cc (c.deref.ensures, c.deref-3.ensures) in
    subst (λ s. GivesSome s c.args.branch.now c.args.part.now c.args.row.now) same (gives_some c.deref-3.result.now c.args.branch.now c.args.part.now _ c.args.row.now (c.give_row.ensures it))
