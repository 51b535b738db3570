use Rattle.ba_kernel.proofs.search.cases_on.Goals as goal

pub cases_of-requires-clause-tidy : goal.cases_of-requires-clause-tidy
cases_of-requires-clause-tidy c = c.requires.tidy c.in-Some.branch c.in-Some.is
