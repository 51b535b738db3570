use Rattle.std.proofs.Common.{◌+◌, ◌≤◌}
use Rattle.ba_eval.specs.Index.{Entered}
use Rattle.ba_eval.proofs.place.entries_of.Given as goal

-- the entries so far are those of the rows so far, each of which was read
abbrev pub invariant-loop-number : goal.invariant-loop-number
invariant-loop-number g l = record {
  entries : Entered l.search.ctx.now l.search.part.now.conds l.at l.rows l.ties l.number l.entries.items;
  steps : l.steps ≤ l.fn.steps + l.number;
}
