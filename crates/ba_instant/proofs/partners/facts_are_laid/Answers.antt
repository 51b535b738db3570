use Rattle.ba_kernel.proofs.TidyRuns.{runs_are_tidy}
use Rattle.ba_instant.proofs.partners.facts_are_laid.Goals as goal

pub returns : goal.returns
returns c number b is_open =
    let course = c.steps-steps.ensures.course in
    (runs_are_tidy c.args.search.now.problem c.args.search.now.steps c.args.search.now.slots course.fits course.runs number b is_open).laid
