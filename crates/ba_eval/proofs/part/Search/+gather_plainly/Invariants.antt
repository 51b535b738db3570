use Rattle.std.proofs.Common.{◌≡◌, length, map, take}
use Rattle.ba_eval.proofs.SearchLemmas.{FromRow}
use Rattle.ba_eval.specs.Search.{Adds, BySome}
use Rattle.ba_eval.proofs.part.Search.+gather_plainly.Given as goal

abbrev pub decreases-gather_plainly : goal.decreases-gather_plainly
decreases-gather_plainly l = length l.from.now

-- the chosen rows are as before, and what was found comes by the rows so far
abbrev pub invariant-loop-next : goal.invariant-loop-next
invariant-loop-next l = record {
  chosen : l.chosen.items ≡ l.fn.chosen.items;
  found : Adds (BySome (FromRow l.self.ctx.now l.self.rows.now l.self.part.now l.rest (map (λ row. row.now) l.fn.chosen.items)) (take l.next-index l.next-items)) l.fn.found l.found;
}
