use Rattle.std.proofs.Common.{ℕ, List, subst}
use Rattle.std.specs.Prelude.{None}
use Rattle.ba_facts.specs.declared.term.Side.TheVariants.{One}
use Rattle.ba_model.specs.declared.policy.View.{View}
use Rattle.ba_facts.specs.Matches.{LeastRound}
use Rattle.ba_kernel.proofs.LeastLemmas.{least_end, least_more}
use Rattle.ba_kernel.specs.NewParts.{IsAtomOfParts}
use Rattle.ba_kernel.proofs.news.split.views_round.Goals as goal

pub loop-view-preserved : goal.loop-view-preserved
loop-view-preserved c =
    least_more c.args.branch.now (λ (view : View) (facts : List ℕ). IsAtomOfParts c.args.branch.now One view.query.parts None c.args.atom.now facts)
    c.args.views.now c.loop-view.view-index c.view-item.result c.loop-view.least c.parts_round.result c.lesser-least.result c.loop-view-test.true
    c.view-item.is c.loop-view.invariant
    (subst (λ parts. LeastRound c.args.branch.now (IsAtomOfParts c.args.branch.now One parts None c.args.atom.now) c.parts_round.result)
    c.as_slice-parts.ensures c.parts_round.ensures)
    c.lesser-least.ensures

pub returns : goal.returns
returns c =
    least_end c.args.branch.now (λ (view : View) (facts : List ℕ). IsAtomOfParts c.args.branch.now One view.query.parts None c.args.atom.now facts)
    c.args.views.now c.loop-view.view-index c.loop-view.least c.loop-view-test.false c.loop-view.invariant
