use Rattle.std.proofs.Common.{◌≡◌, length, map, take}
use Rattle.ba_answer_tests.proofs.PlainSearchLemmas.{FromRow}
use Rattle.ba_answer_tests.specs.PlainSearch.{Adds, BySome}
use Rattle.ba_answer_tests.proofs.tests.plain.part.Search.+gather.Given as goal

abbrev pub decreases-gather : goal.decreases-gather
decreases-gather l = length l.from.now

-- the chosen rows are as before, and what was found comes by the rows so far
abbrev pub invariant-loop-row : goal.invariant-loop-row
invariant-loop-row l = record {
  chosen : l.chosen.items ≡ l.fn.chosen.items;
  found : Adds (BySome (FromRow l.self.ctx.now l.self.rows.now l.self.part.now l.rest (map (λ row. row.now) l.fn.chosen.items)) (take l.row-index l.row-items)) l.fn.found.items l.found.items;
}
