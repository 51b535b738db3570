use Rattle.std.proofs.Common.{◌+◌, ◌*◌, ◌∷◌, length}
use Rattle.ba_match.specs.Searches.{IsNoneBefore}
use Rattle.ba_match.proofs.matching.Search.+places.Given as goal

-- the entries that are left, each looked for twice: in the trace, and in one entry of it
abbrev pub decreases-find : goal.decreases-find
decreases-find l = 2 * length l.entries.now

abbrev pub decreases-find_by : goal.decreases-find_by
decreases-find_by l = 2 * length l.rest.now + 1

-- none before the entries of the trace so far
abbrev pub invariant-find-loop-t : goal.invariant-find-loop-t
invariant-find-loop-t l = IsNoneBefore l.self.problem.now l.self.ctx.now l.self.trace.now (l.entry ∷ l.rest) l.bound (l.t, 0)

-- none before the rows so far
abbrev pub invariant-find_by-loop-r : goal.invariant-find_by-loop-r
invariant-find_by-loop-r l = IsNoneBefore l.self.problem.now l.self.ctx.now l.self.trace.now (l.entry ∷ l.rest) l.bound (l.t, l.r)
