use Rattle.ba_kernel.proofs.PassLemmas.{Before}
use Rattle.ba_kernel.specs.Courses.{EntryFits}
use Rattle.ba_kernel.proofs.draft.first_bad_entry.Given as goal

-- the entries so far are well formed
abbrev pub invariant-loop-n : goal.invariant-loop-n
invariant-loop-n l = Before (EntryFits l.problem) l.problem.entries l.n
