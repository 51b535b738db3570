use Rattle.std.proofs.Common.{take}
use Rattle.std.specs.List.{AllZip}
use Rattle.ba_facts.specs.Matches.{AreTheSame, row_of}
use Rattle.ba_facts.proofs.matches.answered.GivenRow.is_head.Given as goal

-- the terms so far are the same
abbrev pub invariant-loop-i : goal.invariant-loop-i
invariant-loop-i l =
    AllZip (AreTheSame l.walk.branch.now.known) (row_of l.walk.branch.now l.chosen (take l.i l.head))
    (row_of l.walk.branch.now l.self.facts.now (take l.i l.self.operands.now))
