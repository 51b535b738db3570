use Rattle.std.proofs.Common.{◌≡◌, ◌≤◌, take}
use Rattle.ba_proof.specs.Checked.{open_count}
use Rattle.ba_proof.proofs.checking.open_count.Given as goal

-- the open ones of those so far
abbrev pub invariant-loop-number : goal.invariant-loop-number
invariant-loop-number l = (l.count ≡ open_count (take l.number l.search.slots)) × (l.count ≤ l.number)
