-- What searches take is a course and a due list, and where they end at a leaf, it is one.
use Rattle.std.proofs.Common.{◌≡◌, ℕ, List, [], ◌∷◌, ◌++◌, sym, subst}
use Rattle.ba_kernel.specs.Courses.{Runs, Slots}
use Rattle.ba_kernel.specs.declared.problem.Problem.{Problem}
use Rattle.ba_kernel.specs.declared.step.Step.{Step}
use Rattle.ba_settle.specs.Dues.{DueList, EndsAreLeaves, IsSaturated, Searches}
use Rattle.ba_settle.specs.declared.order.Pick.{Pick}

pub runs_of : (pick : Pick) (p : Problem) (taken : List Step) (slots : Slots) → Searches pick p taken slots → Runs p taken slots
runs_of pick p taken slots (Searches.start h) = Runs.start h
runs_of pick p taken slots (Searches.next {taken = before} {old = old} h each picked takes) = Runs.next (runs_of pick p before old h) takes

pub due_list : (pick : Pick) (p : Problem) (taken : List Step) (slots : Slots) → Searches pick p taken slots → DueList pick p taken slots
due_list pick p taken slots (Searches.start h) = DueList.start h
due_list pick p taken slots (Searches.next {taken = before} {old = old} h each picked takes) = DueList.next (due_list pick p before old h) picked takes

-- ---- leaves

pub ends_are_leaves : EndsAreLeaves
ends_are_leaves pick p budget leaf h = record {
  slots = h.slots;
  runs = subst (λ q. Runs q leaf.steps h.slots) (sym h.problem_is) (runs_of pick p leaf.steps h.slots h.searches);
  number = h.number;
  saturated = subst (λ q. IsSaturated q h.slots h.number leaf.branch) (sym h.problem_is) h.saturated;
}
