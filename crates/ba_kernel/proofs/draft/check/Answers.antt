use Rattle.ba_kernel.proofs.DraftLemmas.{none_without, not_asked, without_at}
use Rattle.ba_kernel.specs.Courses.{EntryFits}
use Rattle.ba_kernel.specs.Drafts.{IsAssumedIn}
use Rattle.ba_kernel.specs.Drafts.IsFirstBad.{bad_assumed, bad_entry, bad_goal}
use Rattle.ba_kernel.proofs.draft.check.Goals as goal

pub returns-in-Some-clause-fault : goal.returns-in-Some-clause-fault
returns-in-Some-clause-fault c =
    bad_entry (without_at (EntryFits c.args.problem.now) c.args.problem.now.entries c.in_ok-entry.entry c.in_ok-entry.ensures c.in-Some.n c.in-Some.is)

pub returns-in-Some-first_bad_assumed-clause-fault : goal.returns-in-Some-first_bad_assumed-clause-fault
returns-in-Some-first_bad_assumed-clause-fault c =
    bad_assumed
    (none_without (EntryFits c.args.problem.now) c.args.problem.now.entries c.in_ok-entry.entry c.in_ok-entry.ensures c.in_default.is)
    (without_at (IsAssumedIn c.args.problem.now) c.args.problem.now.assumed c.first_bad_assumed.result c.first_bad_assumed.ensures
    c.in-Some-first_bad_assumed.n c.in-Some-first_bad_assumed.is)

pub returns-then-not-goal-clause-fault : goal.returns-then-not-goal-clause-fault
returns-then-not-goal-clause-fault c =
    bad_goal
    (none_without (EntryFits c.args.problem.now) c.args.problem.now.entries c.in_ok-entry.entry c.in_ok-entry.ensures c.in_default.is)
    (none_without (IsAssumedIn c.args.problem.now) c.args.problem.now.assumed c.first_bad_assumed.result c.first_bad_assumed.ensures
    c.in_default-first_bad_assumed.is)
    (not_asked c.args.problem.now c.goal_query.result.now c.in_ok-goal.goal c.goal_query.ensures c.if-not-goal.true c.in_ok-goal.ensures)
