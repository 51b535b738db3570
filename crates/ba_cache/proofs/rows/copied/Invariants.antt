use Rattle.std.proofs.Common.{◌≡◌, All, take}
use Rattle.ba_cache.specs.Rows.{IsSound}
use Rattle.ba_cache.proofs.rows.copied.Given as goal

abbrev pub invariant-loop-kept : goal.invariant-loop-kept
invariant-loop-kept l = record {
  same : l.all.items ≡ take l.kept-index l.templates;
  sound : All IsSound l.all.items;
}
