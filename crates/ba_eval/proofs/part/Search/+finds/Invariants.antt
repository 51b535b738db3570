use Rattle.std.proofs.Common.{◌≡◌, length, map, take}
use Rattle.ba_eval.proofs.SearchLemmas.{FromRow}
use Rattle.ba_eval.specs.Search.{BySome}
use Rattle.ba_eval.proofs.part.Search.+finds.Given as goal

abbrev pub decreases-finds : goal.decreases-finds
decreases-finds l = length l.from.now

-- the chosen rows are as before, and none of the rows so far gives the row
abbrev pub invariant-loop-next : goal.invariant-loop-next
invariant-loop-next l = record {
  chosen : l.chosen.items ≡ l.fn.chosen.items;
  none : BySome (FromRow l.self.ctx.now l.self.rows.now l.self.part.now l.rest (map (λ row. row.now) l.fn.chosen.items)) (take l.next-index l.next-items) l.row → ⊥;
}
