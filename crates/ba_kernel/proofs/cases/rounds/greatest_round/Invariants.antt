use Rattle.ba_facts.specs.Matches.{round_of}
use Rattle.std.proofs.Common.{◌≡◌, take}
use Rattle.ba_kernel.proofs.cases.rounds.greatest_round.Given as goal

-- the greatest round of the facts so far
abbrev pub invariant-loop-number : goal.invariant-loop-number
invariant-loop-number l = l.greatest ≡ round_of l.branch (take l.number-index l.facts)
