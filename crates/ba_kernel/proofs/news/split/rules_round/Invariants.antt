use Rattle.std.proofs.Common.{take}
use Rattle.ba_facts.specs.Matches.{LeastRound}
use Rattle.ba_kernel.specs.NewParts.{IsAtomOfRules}
use Rattle.ba_kernel.proofs.news.split.rules_round.Given as goal

-- the least round of those so far
abbrev pub invariant-loop-rule : goal.invariant-loop-rule
invariant-loop-rule l = LeastRound l.branch (IsAtomOfRules l.branch (take l.rule-index l.rules) l.atom) l.least
