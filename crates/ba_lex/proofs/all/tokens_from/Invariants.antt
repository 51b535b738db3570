use Rattle.std.proofs.Common.{◌≡◌, ◌-◌, ◌≤◌, drop, length}
use Rattle.ba_lex.specs.Tokens.{tokens_from}
use Rattle.ba_lex.proofs.LoopLemmas.{with_found}
use Rattle.ba_lex.proofs.all.tokens_from.Given as goal

abbrev pub invariant-loop-at : goal.invariant-loop-at
invariant-loop-at l = (l.at ≤ length l.bytes) × (with_found l.found (tokens_from (drop l.at l.bytes) 0 l.at) ≡ tokens_from l.bytes 0 0)

abbrev pub decreases-loop-at : goal.decreases-loop-at
decreases-loop-at l = length l.bytes - l.at
