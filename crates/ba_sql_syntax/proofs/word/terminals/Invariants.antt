use Rattle.std.proofs.Common.{◌≡◌, take}
use Rattle.ba_sql_syntax.specs.Terminals.{terminals}
use Rattle.ba_sql_syntax.proofs.word.terminals.Given as goal

-- those of the words so far
abbrev pub invariant-loop-word : goal.invariant-loop-word
invariant-loop-word l = l.found.items ≡ terminals (take l.word-index l.words)
