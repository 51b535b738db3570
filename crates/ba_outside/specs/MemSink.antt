-- Which writes to a sink in memory fail, and how many bytes each takes.
use Rattle.std.specs.Prelude.{ℕ, ◌+◌, List, [], ◌∷◌, Option, Some, None, Result, Ok, Err, max, min, slice_get, ⊤}
use Rattle.ba_outside.specs.Causes.{last_count}
use Rattle.ba_outside.specs.Seen.{SinkSeen}
use Rattle.ba_outside.specs.declared.sink.WriteFail.{WriteFail}
use Rattle.ba_outside.specs.declared.sink.WriteFail.TheVariants.{Failed, NoMemory}

-- a sink in memory: what is seen of any sink, the numbers of the calls that fail, how many bytes
-- each call takes, and how many calls came
pub record MemSinkSeen : Type 0 where
  pub shown : SinkSeen
  pub failing : List ℕ
  pub takes : List ℕ
  pub calls : ℕ

-- a failure is answered exactly there; want of memory may stand in place of any answer
abbrev pub FailsWhere : {X : Type 0} → Type 0 → Result X WriteFail → Type 0
FailsWhere there (Ok x) = ¬ there
FailsWhere there (Err Failed) = there
FailsWhere there (Err NoMemory) = ⊤

-- at most as many as are listed, but one at least; all of the piece where none are listed
abbrev pub at_most : Option ℕ → ℕ → ℕ
at_most None len = len
at_most (Some n) len = min (max n 1) len

-- how many bytes of a piece the call of this number takes
abbrev pub count_taken : List ℕ → ℕ → ℕ → ℕ
count_taken takes call len = at_most (slice_get takes call) len

-- an empty piece is no call
abbrev pub calls_after : ℕ → List ℕ → ℕ
calls_after calls [] = calls
calls_after calls (byte ∷ bytes) = min (calls + 1) last_count
