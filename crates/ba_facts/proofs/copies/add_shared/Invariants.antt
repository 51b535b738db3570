use Rattle.std.proofs.Common.{◌≡◌, ◌++◌, take}
use Rattle.ba_facts.proofs.copies.add_shared.Given as goal

abbrev pub invariant-loop-item : goal.invariant-loop-item
invariant-loop-item g l = l.copies.items ≡ l.fn.copies.items ++ take l.item-index l.items
