use Rattle.ba_facts.specs.declared.term.Term.TheVariants as terms
use Rattle.ba_general.proofs.GapLemmas.{nothing}
use Rattle.ba_general.specs.Leaving.{IsMovedTerm}
use Rattle.ba_general.proofs.gap.Gap.unknown.Goals as goal

pub returns-in_err-number : goal.returns-in_err-number
returns-in_err-number c =
    nothing (IsMovedTerm c.args.self (terms.Unknown c.args.number)) c.from_residual.result c.from_residual.ensures
    (λ new moved. c.in_err-number.ensures moved.0 moved.1)
