use Rattle.std.proofs.Common.{take}
use Rattle.ba_facts.specs.Matches.{LeastRound}
use Rattle.ba_kernel.specs.NewParts.{IsAtomOfViews}
use Rattle.ba_kernel.proofs.news.split.views_round.Given as goal

-- the least round of those so far
abbrev pub invariant-loop-view : goal.invariant-loop-view
invariant-loop-view l = LeastRound l.branch (IsAtomOfViews l.branch (take l.view-index l.views) l.atom) l.least
