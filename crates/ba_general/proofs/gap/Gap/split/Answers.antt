use Rattle.std.proofs.Common.{subst}
use Rattle.ba_general.proofs.GapLemmas.{no_split}
use Rattle.ba_general.specs.Leaving.{IsMoved, IsMovedAtom, MaybeIs}
use Rattle.ba_general.proofs.gap.Gap.split.Goals as goal

pub returns-in-Some : goal.returns-in-Some
returns-in-Some c = IsMoved.split (subst (MaybeIs (IsMovedAtom c.args.self c.args.atom.now)) c.in-Some.is c.in_ok-moved.ensures)

pub returns-in-None : goal.returns-in-None
returns-in-None c =
    no_split c.args.self c.args.branch c.args.atom.now (subst (MaybeIs (IsMovedAtom c.args.self c.args.atom.now)) c.in-None.is c.in_ok-moved.ensures)
