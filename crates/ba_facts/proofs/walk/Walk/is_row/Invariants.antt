use Rattle.std.proofs.Common.{map, take}
use Rattle.std.specs.List.{AllZip}
use Rattle.std.specs.Prelude.{Some}
use Rattle.ba_facts.specs.Matches.{AreTheSame, row_of}
use Rattle.ba_facts.proofs.walk.Walk.is_row.Given as goal

-- the terms so far are the same
abbrev pub invariant-loop-i : goal.invariant-loop-i
invariant-loop-i l =
    AllZip (AreTheSame l.self.branch.now.known) (row_of l.self.branch.now l.chosen (take l.i l.head)) (map Some (take l.i l.row))
