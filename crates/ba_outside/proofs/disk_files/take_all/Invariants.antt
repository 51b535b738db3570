use Rattle.std.proofs.Common.{◌≡◌, ◌+◌, ◌-◌, min, vec_len}
use Rattle.ba_outside.specs.Causes.{last_count}
use Rattle.ba_outside.proofs.disk_files.take_all.Given as goal

-- the count has risen by the bytes so far, or stands at its last value
abbrev pub invariant-loop-piece : goal.invariant-loop-piece
invariant-loop-piece g l = l.taken.value ≡ min (l.fn.taken.value + vec_len l.bytes) last_count

abbrev pub decreases-loop-piece : goal.decreases-loop-piece
decreases-loop-piece g l = l.limit + 1 - vec_len l.bytes
