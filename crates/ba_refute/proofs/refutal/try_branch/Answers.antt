use Rattle.std.proofs.Common.{subst, sym}
use Rattle.ba_refute.specs.Counterexamples.{IsPairStored}
use Rattle.ba_refute.specs.Images.{IsImage}
use Rattle.ba_refute.specs.Pairs.{pair_of}
use Rattle.ba_refute.specs.Wide.{Narrows}
use Rattle.ba_refute.proofs.ImageLemmas.{tried_by_test}
use Rattle.ba_refute.proofs.refutal.try_branch.Goals as goal

pub returns-in-Some : goal.returns-in-Some
returns-in-Some c =
    let same = subst (Narrows IsPairStored (pair_of c.in_ok-image.image)) c.in-Some.is c.in_ok-pair.ensures in
    tried_by_test c.args.asked.now c.args.problem.now c.args.branch.now c.in-Some.pair c.test.result
    (subst (IsImage c.args.problem.now c.args.asked.now.context.now c.args.branch.now) (sym same.0) c.in_ok-image.ensures.image) c.in_ok-image.ensures.small c.test.ensures
