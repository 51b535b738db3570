-- How a text goes to a sink, and lines one after another.
use Rattle.std.specs.Prelude.{◌≡◌, ◌⊎◌, ℕ, ◌≤◌, ◌<◌, List, [], ◌∷◌, ◌++◌, take, drop, Result, Ok, Err}
use Rattle.std.specs.List.{concat}
use Rattle.std.specs.Io.KnownBytes.{Appends}
use Rattle.ba_outside.specs.Causes.{Rose}
use Rattle.ba_outside.specs.Seen.{SinkSeen}
use Rattle.ba_outside.specs.Sink.{Grows}
use Rattle.ba_outside.specs.declared.sink.WriteFail.{WriteFail}
use Rattle.ba_outside.specs.declared.sink.WriteFail.TheVariants.{Failed, NoMemory}

-- exactly this was appended, and the count of faults didn't fall
pub record Wrote (text : List ℕ) (old new : SinkSeen) : Type 0 where
  pub written : Appends old.written new.written text
  pub faults : old.faults ≤ new.faults

-- a front of the text was appended
pub record WrotePart (text : List ℕ) (old new : SinkSeen) : Type 0 where
  pub front : List ℕ
  pub back : List ℕ
  pub whole : text ≡ front ++ back
  pub wrote : Wrote front old new

-- no fault was counted
abbrev pub Faultless : SinkSeen → SinkSeen → Type 0
Faultless old new = new.faults ≡ old.faults

-- the whole text was written, without a fault; or a front of it, and the count of faults rose, or
-- memory ran out without a fault
abbrev pub Sent : {X : Type 0} → List ℕ → SinkSeen → SinkSeen → Result X WriteFail → Type 0
Sent text old new (Ok x) = Wrote text old new × Faultless old new
Sent text old new (Err Failed) = WrotePart text old new × Rose old.faults new.faults
Sent text old new (Err NoMemory) = WrotePart text old new × Faultless old new

-- the pieces handed over for a line, each being what wasn't taken of it yet, and the front that was
-- taken of it; of each piece but the last something was taken, so that none follows one that failed
abbrev pub Rests : List ℕ → List (List ℕ) → List ℕ → Type 0
Rests rest [] front = front ≡ []
Rests rest (piece ∷ pieces) front = (piece ≡ rest)
    × ((count : ℕ) × (later : List ℕ) × (front ≡ take count rest ++ later)
    × ((0 < count) ⊎ (pieces ≡ [])) × Rests (drop count rest) pieces later)

-- the pieces handed over for lines that were all taken whole, one after another
abbrev pub AllTaken : List (List ℕ) → List (List ℕ) → Type 0
AllTaken [] pieces = pieces ≡ []
AllTaken (line ∷ lines) pieces =
    (first : List (List ℕ)) × (later : List (List ℕ)) × (pieces ≡ first ++ later)
    × Rests line first line × AllTaken lines later

-- the pieces handed over for lines of which a front was taken: no line comes before the one in
-- front of it was taken whole
abbrev pub PartTaken : List (List ℕ) → List (List ℕ) → List ℕ → Type 0
PartTaken [] pieces front = (pieces ≡ []) × (front ≡ [])
PartTaken (line ∷ lines) pieces front = Rests line pieces front
    ⊎ ((first : List (List ℕ)) × (later : List (List ℕ)) × (behind : List ℕ)
    × (pieces ≡ first ++ later) × (front ≡ line ++ behind)
    × Rests line first line × PartTaken lines later behind)

-- the lines were handed over and written whole, without a fault
pub record WroteLines (lines : List (List ℕ)) (old new : SinkSeen) : Type 0 where
  pub pieces : List (List ℕ)
  pub taken : AllTaken lines pieces
  pub handed : Grows old.pieces new.pieces pieces
  pub wrote : Wrote (concat lines) old new
  pub faultless : Faultless old new

-- of the lines a front was handed over and written
pub record WroteLinesPart (lines : List (List ℕ)) (old new : SinkSeen) : Type 0 where
  pub pieces : List (List ℕ)
  pub front : List ℕ
  pub taken : PartTaken lines pieces front
  pub handed : Grows old.pieces new.pieces pieces
  pub wrote : Wrote front old new

-- each piece handed over was a line or the rest of it that wasn't taken yet; all lines were
-- written, without a fault, or a front of them, and the count of faults rose, or memory ran out
-- without a fault
abbrev pub SentLines : {X : Type 0} → List (List ℕ) → SinkSeen → SinkSeen → Result X WriteFail
    → Type 0
SentLines lines old new (Ok x) = WroteLines lines old new
SentLines lines old new (Err Failed) = WroteLinesPart lines old new × Rose old.faults new.faults
SentLines lines old new (Err NoMemory) = WroteLinesPart lines old new × Faultless old new
