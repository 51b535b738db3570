use Rattle.std.proofs.Common.{◌≡◌, drop}
use Rattle.ba_sql_syntax.specs.Terminals.{first_key}
use Rattle.ba_sql_syntax.proofs.word.key_among.Given as goal

-- none of the keywords so far
abbrev pub invariant-loop-key : goal.invariant-loop-key
invariant-loop-key l = first_key l.keys l.word ≡ first_key (drop l.key-index l.keys) l.word
