use Rattle.std.proofs.Common.{subst, sym}
use Rattle.ba_general.specs.Leaving.{IsMovedTerm, MaybeIs}
use Rattle.ba_general.proofs.gap.Gap.term.Goals as goal

pub returns-in-Unknown : goal.returns-in-Unknown
returns-in-Unknown c = subst (λ t. MaybeIs (IsMovedTerm c.args.self t) c.unknown.result) (sym c.in-Unknown.is) c.unknown.ensures
