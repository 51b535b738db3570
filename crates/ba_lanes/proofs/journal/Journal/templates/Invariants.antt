use Rattle.std.proofs.Common.{◌≡◌, flat_map, take}
use Rattle.ba_cache.specs.Passes.{ClosedShelf}
use Rattle.ba_cache.specs.Reads.{rows_of}
use Rattle.ba_cache.specs.Rows.{templates_in}
use Rattle.ba_lanes.proofs.journal.Journal.templates.Given as goal

-- the templates of the shelves so far are read out
abbrev pub invariant-loop-closed : goal.invariant-loop-closed
invariant-loop-closed l = l.all.items ≡ flat_map (λ (it : ClosedShelf). templates_in (rows_of it.0)) (take l.closed-index l.closed-items)
