use Rattle.ba_kernel.proofs.PassLemmas.{Before}
use Rattle.ba_kernel.specs.Drafts.{IsAssumedIn}
use Rattle.ba_kernel.proofs.draft.first_bad_assumed.Given as goal

-- the atoms so far are well formed
abbrev pub invariant-loop-n : goal.invariant-loop-n
invariant-loop-n l = Before (IsAssumedIn l.problem) l.problem.assumed l.n
