use Rattle.std.proofs.Common.{◌∙◌, refl, sym, subst}
use Rattle.ba_kernel.proofs.SearchLemmas.{after_taken, below_taken, leads_taken, put_course, put_takes, tidy_open}
use Rattle.ba_kernel.specs.Courses.{Takes, branch_of}
use Rattle.ba_kernel.specs.SearchStates.{Course, LeadsAt, open_at}
use Rattle.ba_kernel.proofs.search.Search.moved.Goals as goal

pub cases_on-requires-clause-tidy : goal.cases_on-requires-clause-tidy
cases_on-requires-clause-tidy c = λ b e.
    let inside = c.self.inside in
    tidy_open (record { problem = inside.problem; steps = inside.steps; slots = inside.slots.items }) inside.problem inside.steps inside.slots.items c.branch-step.result b refl
    c.runs_are_tidy.ensures c.self.invariant.0 (sym e ∙ c.take_branch-branch.ensures.branch)

pub add_step-requires : goal.add_step-requires
add_step-requires c =
    let p = c.self.inside.problem in
    let slots = c.self.inside.slots.items in
    let taken = c.take_branch-branch in
    below_taken p slots taken.new.slots.items c.branch-step.result c.args.step c.in_ok-cases.cases.items taken.ensures.slots
    (leads_taken p slots c.branch-step.result taken.result c.args.step c.in_ok-cases.cases.items c.branch-step.ensures taken.ensures.branch c.in_ok-cases.ensures)

pub invariant_of-result : goal.invariant_of-result
invariant_of-result c =
    let inside = c.self.inside in
    let slots = inside.slots.items in
    let taken = c.take_branch-branch in
    let cases = c.in_ok-cases.cases.items in
    let leads = leads_taken inside.problem slots c.branch-step.result taken.result c.args.step cases c.branch-step.ensures taken.ensures.branch c.in_ok-cases.ensures in
    let left_is = after_taken slots taken.new.slots.items c.add_step.new.slots.items c.branch-step.result (branch_of c.args.step) cases c.branch-step.ensures taken.ensures.slots c.in_ok-add_step.ensures.slots in (
      put_course c.args.self inside.problem inside.steps c.add_step.new.steps slots c.add_step.new.slots.items c.args.step cases c.self.view_is c.self.invariant.0
          c.in_ok-add_step.ensures.steps left_is c.requires.few (subst (λ (k : Course). LeadsAt k.problem (open_at k.slots (branch_of c.args.step)) c.args.step cases) c.self.view_is leads),
      tt,
    )

pub returns-clause-taken : goal.returns-clause-taken
returns-clause-taken c =
    let inside = c.self.inside in
    let slots = inside.slots.items in
    let taken = c.take_branch-branch in
    let cases = c.in_ok-cases.cases.items in
    let leads = leads_taken inside.problem slots c.branch-step.result taken.result c.args.step cases c.branch-step.ensures taken.ensures.branch c.in_ok-cases.ensures in
    let left_is = after_taken slots taken.new.slots.items c.add_step.new.slots.items c.branch-step.result (branch_of c.args.step) cases c.branch-step.ensures taken.ensures.slots c.in_ok-add_step.ensures.slots in
    subst (λ (k : Course). Takes k.problem k.slots c.args.step c.add_step.new.slots.items) c.self.view_is
    (put_takes inside.problem slots c.add_step.new.slots.items c.args.step cases leads left_is)
