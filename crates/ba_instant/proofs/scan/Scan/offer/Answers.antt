use Rattle.std.proofs.Common.{refl, subst}
use Rattle.ba_kernel.specs.Courses.{branch_of}
use Rattle.ba_kernel.specs.News.{IsNewRound}
use Rattle.ba_kernel.specs.SearchStates.{open_at}
use Rattle.ba_instant.proofs.OfferLemmas.{offered_new, offered_old}
use Rattle.ba_instant.proofs.scan.Scan.offer.Goals as goal

pub returns-in_ok-keep_found-in-Some : goal.returns-in_ok-keep_found-in-Some
returns-in_ok-keep_found-in-Some c =
    offered_new c.args.self.now.search.now c.args.self.now.pick c.args.step c.args.best.now c.keep_found.new.best
    (record { round = c.in-Some.round; step = c.args.step }) refl
    (subst (IsNewRound c.args.self.now.search.now.problem (open_at c.args.self.now.search.now.slots (branch_of c.args.step)) c.args.step) c.in-Some.is c.new_round.ensures)
    c.in_ok-keep_found-in-Some.ensures

pub returns-in-None : goal.returns-in-None
returns-in-None c =
    offered_old c.args.self.now.search.now c.args.self.now.pick c.args.step c.args.best.now
    (subst (IsNewRound c.args.self.now.search.now.problem (open_at c.args.self.now.search.now.slots (branch_of c.args.step)) c.args.step) c.in-None.is c.new_round.ensures)
