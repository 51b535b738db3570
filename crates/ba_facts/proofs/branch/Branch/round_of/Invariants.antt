use Rattle.std.proofs.Common.{◌≡◌, drop}
use Rattle.std.specs.Prelude.{max}
use Rattle.ba_facts.specs.Matches.{round_of}
use Rattle.ba_facts.proofs.branch.Branch.round_of.Given as goal

-- the greatest round so far and that of the facts that are left is that of all
abbrev pub invariant-loop-number : goal.invariant-loop-number
invariant-loop-number l = max l.round (round_of l.self (drop l.number-index l.numbers)) ≡ round_of l.self l.numbers
