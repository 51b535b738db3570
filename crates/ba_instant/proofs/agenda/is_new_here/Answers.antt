use Rattle.std.proofs.Common.{subst}
use Rattle.std.specs.Cmp.{unsigned_Decides}
use Rattle.std.specs.Prelude.{nat_eq}
use Rattle.ba_kernel.specs.Courses.{branch_of}
use Rattle.ba_kernel.specs.News.{IsNewRound}
use Rattle.ba_kernel.specs.SearchStates.{open_at}
use Rattle.ba_instant.proofs.AgendaLemmas.{here_if}
use Rattle.ba_instant.proofs.agenda.is_new_here.Goals as goal

pub returns-in-Some : goal.returns-in-Some
returns-in-Some c =
    here_if c.args.search.now c.args.step.now c.in-Some.its c.args.round (nat_eq c.in-Some.its c.args.round)
    (subst (IsNewRound c.args.search.now.problem (open_at c.args.search.now.slots (branch_of c.args.step.now)) c.args.step.now) c.in-Some.is c.new_round.ensures)
    (unsigned_Decides c.in-Some.its c.args.round).0 (unsigned_Decides c.in-Some.its c.args.round).1
