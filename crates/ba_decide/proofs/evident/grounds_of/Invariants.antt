use Rattle.std.proofs.Common.{◌≡◌, map, take}
use Rattle.ba_evidence.specs.Evidence.{evidence}
use Rattle.ba_decide.specs.Evident.{told_evidence}
use Rattle.ba_decide.proofs.evident.grounds_of.Given as goal

abbrev pub invariant-loop-told : goal.invariant-loop-told
invariant-loop-told l = map evidence l.its.items ≡ map told_evidence (take l.told-index l.all)
