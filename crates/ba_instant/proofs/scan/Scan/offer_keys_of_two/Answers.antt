use Rattle.ba_instant.proofs.PairLemmas.{pair_passed}
use Rattle.ba_instant.proofs.scan.Scan.offer_keys_of_two.Goals as goal

pub returns-else-is_pair : goal.returns-else-is_pair
returns-else-is_pair c =
    pair_passed c.args.self.now.search.now c.args.self.now.number c.args.self.now.quiet c.args.self.now.branch.now c.requires c.args.self.now.pick c.args.one c.args.other c.args.best.now
    (λ h. let t = c.is_pair.ensures.1 h in let f = c.if-is_pair.false in cc)
