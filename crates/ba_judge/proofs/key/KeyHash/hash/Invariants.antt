use Rattle.std.proofs.Common.{◌≡◌, fold, take}
use Rattle.std.specs.List.{flat_map}
use Rattle.ba_cache.specs.Keys.{part_input}
use Rattle.ba_judge.proofs.key.KeyHash.hash.Given as goal

abbrev pub invariant-loop-part : goal.invariant-loop-part
invariant-loop-part g l = l.state ≡ fold g.H.Hasher.write l.fn.state (flat_map part_input (take l.part-index l.part-items))
