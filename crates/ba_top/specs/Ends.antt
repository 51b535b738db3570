-- How a command ends that hands lines to its sink.
use Rattle.std.specs.Prelude.{◌≡◌, ◌⊎◌, ℕ, List, [], ◌∷◌, Err}
use Rattle.ba_outside.specs.Seen.{SinkSeen}
use Rattle.ba_outside.specs.declared.sink.WriteFail.TheVariants.{Failed, NoMemory as NoRoom}
use Rattle.ba_plan.specs.Sent.{SentLines, WroteLines}
use Rattle.ba_input.specs.declared.detail.Detail.{Detail}
use Rattle.ba_input.specs.declared.detail.Detail.TheVariants.{Write, Memory}

-- all lines are written, and it ends as a whole; or a front of them is, and the sink failed or
-- memory ran out
abbrev pub EndsLines : List (List ℕ) → Detail → SinkSeen → SinkSeen → Detail → Type 0
EndsLines lines whole s t detail = ((detail ≡ whole) × WroteLines lines s t)
    ⊎ ((detail ≡ Write) × SentLines {X = Unit {0}} lines s t (Err Failed))
    ⊎ ((detail ≡ Memory) × SentLines {X = Unit {0}} lines s t (Err NoRoom))

-- the same of one line
abbrev pub EndsLine : List ℕ → Detail → SinkSeen → SinkSeen → Detail → Type 0
EndsLine line whole s t detail = EndsLines (line ∷ []) whole s t detail
