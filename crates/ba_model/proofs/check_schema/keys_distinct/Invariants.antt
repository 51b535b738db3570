use Rattle.std.proofs.Common.{All, take, nat_eq}
use Rattle.std.specs.List.{IsDistinct}
use Rattle.ba_model.proofs.check_schema.keys_distinct.Given as goal

abbrev pub invariant-loop-key : goal.invariant-loop-key
invariant-loop-key l = All (IsDistinct nat_eq) (take l.key-index l.keys)
