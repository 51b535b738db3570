use Rattle.ba_instant.proofs.ScanLemmas.{links_all}
use Rattle.ba_instant.proofs.SplitLemmas.{at_all, number_more}
use Rattle.ba_instant.specs.Offers.{IsLinkOfFact}
use Rattle.ba_instant.proofs.scan.Scan.offer_links.Goals as goal

pub loop-fact-preserved : goal.loop-fact-preserved
loop-fact-preserved c =
    number_more c.args.self.now.search.now c.args.self.now.pick c.args.self.now.recent.now (λ fact step. IsLinkOfFact c.args.self.now.number fact step) c.loop-fact.fact-index c.args.best.now c.loop-fact.best c.offer_links_of.new.best c.loop-fact-test.true
    c.loop-fact.invariant c.in_ok-offer_links_of.ensures

pub returns : goal.returns
returns c =
    links_all c.args.self.now.search.now c.args.self.now.number c.args.self.now.quiet c.args.self.now.branch.now c.args.self.now.recent.now c.requires.of c.args.self.now.pick c.args.best.now c.loop-fact.best
    (at_all c.args.self.now.search.now c.args.self.now.pick c.args.self.now.recent.now (λ fact step. IsLinkOfFact c.args.self.now.number fact step) c.loop-fact.fact-index c.args.best.now c.loop-fact.best c.loop-fact-test.false c.loop-fact.invariant)
