use Rattle.std.proofs.Common.{◌≡◌, ◌-◌, length}
use Rattle.ba_direct.proofs.SearchLemmas.{Tried}
use Rattle.ba_direct.proofs.pairing.+pair.Given as goal

abbrev pub decreases-pair : goal.decreases-pair
decreases-pair l = length (l.part.now).from - length (l.to.now).items

-- the places so far do not lead to a cover
abbrev pub invariant-loop-place : goal.invariant-loop-place
invariant-loop-place l = record {
  kept : l.to.items ≡ l.fn.to.items;
  tried : Tried l.ctx l.view l.part l.fn.to.items l.place;
}
