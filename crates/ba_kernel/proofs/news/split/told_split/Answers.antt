use Rattle.ba_kernel.proofs.LeastLemmas.{split_told}
use Rattle.ba_kernel.proofs.news.split.told_split.Goals as goal

pub returns-in-Some : goal.returns-in-Some
returns-in-Some c =
    split_told c.args.problem.now c.args.branch.now c.args.atom.now c.in-Some.round c.from.result c.from.ensures
    (c.may_tell.ensures.0 c.if-not-may_tell.false) c.in-Some.ensures

pub returns-in-None : goal.returns-in-None
returns-in-None c = λ tells. c.in-None.ensures tells.facts tells.candidate
