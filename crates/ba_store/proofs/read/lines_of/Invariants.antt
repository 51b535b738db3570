use Rattle.std.proofs.Common.{◌+◌, ◌≤◌, length}
use Rattle.ba_model.specs.Limits.{most_templates}
use Rattle.ba_store.proofs.LineLemmas.{ReadSoFar}
use Rattle.ba_store.proofs.read.lines_of.Given as goal

-- the templates so far are those of the lines so far, and with the lines that are left they are few
abbrev pub invariant-loop-bytes : goal.invariant-loop-bytes
invariant-loop-bytes l = ReadSoFar l.policy l.fn.lines l.bytes-iterator l.found × (length l.found + length l.bytes-iterator ≤ most_templates)
