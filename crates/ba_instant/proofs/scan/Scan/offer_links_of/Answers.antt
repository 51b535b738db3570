use Rattle.std.proofs.Common.{◌≡◌, ◌+◌, ◌≤◌, arith, length}
use Rattle.std.proofs.lemmas.Grind.{common_steps}
use Rattle.ba_kernel.specs.declared.step.Step.TheVariants as steps
use Rattle.ba_instant.specs.Offers.{fact_round, links_at}
use Rattle.ba_instant.proofs.ChaseLemmas.{link_past}
use Rattle.ba_instant.proofs.ScanLemmas.{link_in}
use Rattle.ba_instant.proofs.OfferLemmas.{improves_end, improves_next}
use Rattle.ba_instant.proofs.scan.Scan.offer_links_of.Goals as goal

pub loop-link-preserved : goal.loop-link-preserved
loop-link-preserved c =
    improves_next c.args.self.now.search.now c.args.self.now.pick (λ link step. step ≡ steps.Link c.args.self.now.number link c.args.fact) c.loop-link.link c.args.best.now c.loop-link.best c.offer_link.new.best c.loop-link.invariant
    c.in_ok-offer_link.ensures

pub offer_link-requires-clause-round : goal.offer_link-requires-clause-round
offer_link-requires-clause-round c =
    link_in c.args.self.now.search.now c.args.self.now.number c.args.self.now.quiet c.args.self.now.branch.now c.args.self.now.recent.now c.requires.of c.args.fact c.loop-link.link _
    (let e : _ ≡ 1 + fact_round c.args.self.now.branch.now c.args.fact = omega (arith, c.from-round.ensures, c.fact_round.ensures) in e)

pub returns : goal.returns
returns c =
    let past : length (links_at c.args.self.now.search.now.problem.policy.schema c.args.self.now.branch.now c.args.fact) ≤ c.loop-link.link = grind (arith, common_steps) in
    improves_end c.args.self.now.search.now c.args.self.now.pick (λ link step. step ≡ steps.Link c.args.self.now.number link c.args.fact) c.loop-link.link c.args.best.now c.loop-link.best c.loop-link.invariant
    (λ link step more of new. link_past c.args.self.now.search.now c.args.self.now.number c.args.self.now.branch.now c.requires.of.open_ link c.args.fact step (omega (arith, past, more)) of new)
