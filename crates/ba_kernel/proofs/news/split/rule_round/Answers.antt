use Rattle.std.proofs.Common.{sym, subst}
use Rattle.std.specs.Prelude.{None}
use Rattle.ba_facts.specs.declared.term.Side.TheVariants.{One, Two}
use Rattle.ba_facts.specs.Matches.{LeastRound}
use Rattle.ba_kernel.proofs.LeastLemmas.{least_either}
use Rattle.ba_kernel.specs.NewParts.{IsAtomOfParts, IsAtomOfSides}
use Rattle.ba_kernel.proofs.news.split.rule_round.Goals as goal

pub returns : goal.returns
returns c =
    subst (LeastRound c.args.branch.now (IsAtomOfSides c.args.branch.now c.args.parts.now c.args.atom.now)) (sym c.lesser.ensures)
    (least_either c.args.branch.now (IsAtomOfParts c.args.branch.now One c.args.parts.now None c.args.atom.now)
    (IsAtomOfParts c.args.branch.now Two c.args.parts.now None c.args.atom.now) c.parts_round-one.result c.parts_round-two.result
    c.parts_round-one.ensures c.parts_round-two.ensures)
