use Rattle.std.proofs.Common.{All, take}
use Rattle.ba_cache.specs.Rows.{IsOther}
use Rattle.ba_cache.proofs.rows.id_of.Given as goal

abbrev pub invariant-loop-kept : goal.invariant-loop-kept
invariant-loop-kept l = All (IsOther l.template) (take l.kept-index l.templates)
