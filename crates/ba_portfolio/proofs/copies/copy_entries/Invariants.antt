use Rattle.std.proofs.Common.{◌≡◌, take}
use Rattle.ba_portfolio.proofs.copies.copy_entries.Given as goal

-- the copies so far are the entries so far
abbrev pub invariant-loop-entry : goal.invariant-loop-entry
invariant-loop-entry l = l.all ≡ take l.entry-index l.entry-items
