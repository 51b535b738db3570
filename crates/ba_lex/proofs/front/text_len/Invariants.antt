use Rattle.std.proofs.Common.{◌≡◌, drop, false}
use Rattle.ba_lex.specs.Tokens.{text_len}
use Rattle.ba_lex.proofs.TextLemmas.{plus}
use Rattle.ba_lex.proofs.front.text_len.Given as goal

abbrev pub invariant-loop-at : goal.invariant-loop-at
invariant-loop-at l = plus l.at (text_len l.after_quote (drop l.at l.rest)) ≡ text_len false l.rest
