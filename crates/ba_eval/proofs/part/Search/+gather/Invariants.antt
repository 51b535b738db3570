use Rattle.std.proofs.Common.{◌≡◌, ℕ, List, length, map, take}
use Rattle.std.specs.Prelude.{IsTrue}
use Rattle.ba_eval.proofs.GatherLemmas.{FromNumber, table_of}
use Rattle.ba_eval.proofs.VisitLemmas.{Visiting}
use Rattle.ba_eval.specs.Visits.{Reached}
use Rattle.ba_eval.specs.Search.{Adds, BySome}
use Rattle.ba_eval.proofs.part.Search.+gather.Given as goal

abbrev pub decreases-gather : goal.decreases-gather
decreases-gather g l = length l.places.now

-- the chosen rows are as before, and what was found comes by the numbers so far
abbrev pub invariant-loop-number : goal.invariant-loop-number
invariant-loop-number g l = record {
  chosen : l.chosen.items ≡ l.fn.chosen.items;
  found : Adds (BySome (FromNumber l.self.ctx.now l.self.rows.now l.self.part.now (map (λ place. place.table) l.rest) (map (λ row. row.now) l.fn.chosen.items) l.place.rows.now) (take l.number-index l.number-items)) l.fn.found l.found;
  steps : IsTrue l.self.bounded → (before : List ℕ) → Reached l.self.ctx.now l.self.rows.now l.self.part.now (map table_of l.places) before (map (λ row. row.now) l.fn.chosen.items) → Visiting l.self.ctx.now l.self.rows.now l.self.part.now before (take l.number-index l.number-items) l.fn.steps l.steps;
}
