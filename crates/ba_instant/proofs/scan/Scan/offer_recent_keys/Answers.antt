use Rattle.ba_instant.proofs.ScanLemmas.{keys_late}
use Rattle.ba_instant.proofs.PairLemmas.{keys_all}
use Rattle.ba_instant.proofs.SplitLemmas.{at_all, number_more}
use Rattle.ba_instant.specs.Scans.{IsKeyInTurn}
use Rattle.ba_instant.specs.Offers.{OfAny}
use Rattle.ba_instant.proofs.scan.Scan.offer_recent_keys.Goals as goal

pub loop-fact-preserved : goal.loop-fact-preserved
loop-fact-preserved c =
    number_more c.args.self.now.search.now c.args.self.now.pick c.args.self.now.recent.now (λ one step. OfAny (IsKeyInTurn c.args.self.now.branch.now c.args.self.now.quiet c.args.self.now.number one) step) c.loop-fact.fact-index c.args.best.now c.loop-fact.best c.offer_keys_of.new.best
    c.loop-fact-test.true c.loop-fact.invariant c.in_ok-offer_keys_of.ensures

pub returns : goal.returns
returns c =
    keys_all c.args.self.now.search.now c.args.self.now.number c.args.self.now.quiet c.args.self.now.branch.now c.args.self.now.recent.now c.requires.of.open_
    (keys_late c.args.self.now.search.now c.args.self.now.number c.args.self.now.quiet c.args.self.now.branch.now c.args.self.now.recent.now c.requires.of) c.requires.of.recent_ c.args.self.now.pick c.args.best.now c.loop-fact.best
    (at_all c.args.self.now.search.now c.args.self.now.pick c.args.self.now.recent.now (λ one step. OfAny (IsKeyInTurn c.args.self.now.branch.now c.args.self.now.quiet c.args.self.now.number one) step) c.loop-fact.fact-index c.args.best.now c.loop-fact.best c.loop-fact-test.false
    c.loop-fact.invariant)
