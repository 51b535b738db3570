use Rattle.std.proofs.Common.{ℕ, ◌<◌}
use Rattle.ba_direct.specs.Search.{NoneBy}
use Rattle.ba_direct.proofs.search.cover_part.Given as goal

-- the views so far don't cover the part
abbrev pub invariant-loop-view : goal.invariant-loop-view
invariant-loop-view l = (n : ℕ) → n < l.view → NoneBy l.policy l.ctx l.part n
