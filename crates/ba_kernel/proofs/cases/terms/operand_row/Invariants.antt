use Rattle.std.proofs.Common.{◌≡◌, Some, map, take}
use Rattle.ba_facts.specs.Matches.{row_of}
use Rattle.ba_kernel.proofs.cases.terms.operand_row.Given as goal

-- the row so far has the terms of the operands so far
abbrev pub invariant-loop-operand : goal.invariant-loop-operand
invariant-loop-operand l = row_of l.branch l.facts (take l.operand-index l.operands) ≡ map Some l.row.items
