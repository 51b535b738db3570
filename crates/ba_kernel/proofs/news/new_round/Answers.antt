use Rattle.ba_kernel.proofs.TestLemmas.{not_both}
use Rattle.ba_kernel.proofs.news.new_round.Goals as goal

pub returns-in-Err : goal.returns-in-Err
returns-in-Err c =
    λ new. not_both c.args.problem.now c.args.branch.now c.args.step.now c.in-Err.field-0 new.passes c.in-Err.ensures
