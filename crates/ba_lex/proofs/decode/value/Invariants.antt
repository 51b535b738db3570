use Rattle.std.proofs.Common.{◌≡◌, drop}
use Rattle.ba_lex.specs.Spelling.{digits_value, value_after}
use Rattle.ba_lex.proofs.decode.value.Given as goal

-- the digits so far said the value
abbrev pub invariant-loop-digit : goal.invariant-loop-digit
invariant-loop-digit l = value_after l.value (drop l.digit-index l.digits) ≡ digits_value l.digits
