use Rattle.std.proofs.Common.{take}
use Rattle.std.specs.Option.{option_copied}
use Rattle.ba_facts.specs.Matches.{LeastRound}
use Rattle.ba_kernel.specs.NewParts.{IsAtomOfParts}
use Rattle.ba_kernel.proofs.news.split.parts_round.Given as goal

-- the least round of those so far
abbrev pub invariant-loop-part : goal.invariant-loop-part
invariant-loop-part l = LeastRound l.branch (IsAtomOfParts l.branch l.side (take l.part-index l.parts) (option_copied l.row) l.atom) l.least
