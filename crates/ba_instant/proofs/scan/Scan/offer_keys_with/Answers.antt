use Rattle.ba_instant.proofs.PairLemmas.{partners_all}
use Rattle.ba_instant.proofs.SplitLemmas.{at_all, number_more}
use Rattle.ba_instant.specs.Scans.{IsKeyInTurn}
use Rattle.ba_instant.proofs.scan.Scan.offer_keys_with.Goals as goal

pub loop-other-preserved : goal.loop-other-preserved
loop-other-preserved c =
    number_more c.args.self.now.search.now c.args.self.now.pick c.args.partners.now (IsKeyInTurn c.args.self.now.branch.now c.args.self.now.quiet c.args.self.now.number c.args.one) c.loop-other.other-index
    c.args.best.now c.loop-other.best c.offer_keys_of_two.new.best c.loop-other-test.true c.loop-other.invariant c.in_ok-offer_keys_of_two.ensures

pub returns : goal.returns
returns c =
    partners_all c.args.self.now.search.now c.args.self.now.number c.args.self.now.quiet c.args.self.now.branch.now c.requires.open c.args.self.now.pick c.args.one c.args.partners.now c.args.best.now c.loop-other.best
    c.requires.partners
    (at_all c.args.self.now.search.now c.args.self.now.pick c.args.partners.now (IsKeyInTurn c.args.self.now.branch.now c.args.self.now.quiet c.args.self.now.number c.args.one) c.loop-other.other-index c.args.best.now
    c.loop-other.best c.loop-other-test.false c.loop-other.invariant)
