-- What the service did, from its words to its end.
use Rattle.std.specs.Prelude.{◌≡◌, ◌⊎◌, Bool, ℕ, ◌+◌, ◌^◌, ◌-◌, ◌<◌, ◌≤◌, List, [], ◌∷◌, ◌++◌, Option, Some, None, Result, Err, length, min, ⊤}
use Rattle.std.specs.List.{AllZip}
use Rattle.ba_live.specs.declared.live.Live.{Live}
use Rattle.ba_outside.specs.Causes.{Rose, last_count}
use Rattle.ba_outside.specs.Seen.{SinkSeen}
use Rattle.ba_outside.specs.declared.sink.WriteFail.{WriteFail}
use Rattle.ba_outside.specs.declared.sink.WriteFail.TheVariants.{Failed, NoMemory}
use Rattle.ba_plan.specs.Sent.{SentLines, WroteLines}
use Rattle.ba_settle.specs.Settling.{Effort}
use Rattle.ba_source.specs.Seen.{SourceSeen}
use Rattle.ba_decide.specs.Journal.{Entry, Heard, Runs, Serves, said, too_long, lost}
use Rattle.ba_decide.specs.Evident.{IsTextOf}
use Rattle.ba_decide.specs.Limits.{most_line_bytes}
use Rattle.ba_decide.specs.declared.serve.Answer.{Answer}
use Rattle.ba_decide.specs.declared.serve.Next.{Next}
use Rattle.ba_decide.specs.declared.serve.Next.TheVariants as next
use Rattle.ba_decide.specs.declared.top.Ending.{Ending}
use Rattle.ba_decide.specs.declared.top.Ending.TheVariants as ending

-- what was decided on what was heard
abbrev pub entry : Heard → Answer → Entry
entry heard it = record { heard = heard; subject = it.subject; decision = it.decision }

-- ---- what was heard

-- what is heard of a line: its bytes, or that it is too long, or nothing
abbrev pub IsHeardOf : List ℕ → Heard → Type 0
IsHeardOf line (said bytes) = (bytes ≡ line) × (length line ≤ most_line_bytes)
IsHeardOf line too_long = most_line_bytes < length line
IsHeardOf line lost = ⊤

-- one more line was taken, and this was heard of it
abbrev pub HearsLine : Heard → Option (List (List ℕ)) → Option (List (List ℕ)) → Type 0
HearsLine heard None new = new ≡ None
HearsLine heard (Some lines) new =
    (line : List ℕ) × (rest : List (List ℕ)) × (lines ≡ line ∷ rest) × (new ≡ Some rest) ×
    IsHeardOf line heard

-- So many lines were taken, as far as the count goes.
abbrev pub Took : ℕ → ℕ → ℕ → Type 0
Took count before now = min now last_count ≡ min (before + count) last_count

-- no line but this one was taken
pub record Hears (heard : Heard) (old new : SourceSeen) : Type 0 where
  pub line : HearsLine heard old.left new.left
  pub taken : Took 1 old.taken new.taken
  pub faults : new.faults ≡ old.faults

-- the entries are of the first lines, one of each, where these are told
abbrev pub HearsLines : List Entry → Option (List (List ℕ)) → Option (List (List ℕ)) → Type 0
HearsLines journal None new = new ≡ None
HearsLines journal (Some lines) new =
    (front : List (List ℕ)) × (rest : List (List ℕ)) × (lines ≡ front ++ rest) ×
    (new ≡ Some rest) × AllZip (λ line (it : Entry). IsHeardOf line it.heard) front journal

-- no lines but those of the entries were taken
pub record HearsAll (journal : List Entry) (old new : SourceSeen) : Type 0 where
  pub lines : HearsLines journal old.left new.left
  pub taken : Took (length journal) old.taken new.taken
  pub faults : new.faults ≡ old.faults

-- ---- how it ended

-- no line was left, and none was taken
pub record HearsEnd (old new : SourceSeen) : Type 0 where
  pub none : (lines : List (List ℕ)) → old.left ≡ Some lines → lines ≡ []
  pub taken : Took 0 old.taken new.taken
  pub faults : new.faults ≡ old.faults

-- reading failed, and no line was taken
pub record HearsFault (old new : SourceSeen) : Type 0 where
  pub left : new.left ≡ old.left
  pub taken : Took 0 old.taken new.taken
  pub faults : Rose old.faults new.faults

-- the last line alone wasn't written whole
pub record BreaksOff (why : WriteFail) (texts : List (List ℕ)) (old new : SinkSeen) : Type 0 where
  pub earlier : List (List ℕ)
  pub last : List ℕ
  pub are : texts ≡ earlier ++ last ∷ []
  pub sink : SinkSeen
  pub whole : WroteLines earlier old sink
  pub part : SentLines {X = Unit {0}} (last ∷ []) sink new (Err why)

-- as many lines as there are numbers for
abbrev pub most_lines : ℕ
most_lines = 2 ^ 64 - 2

-- How it ends after these texts: the lines ended, each answered; reading failed behind lines that
-- were all answered; or the line of the last decision couldn't be written, and the lines before it
-- were, before its own was taken.
abbrev pub EndsBy : Ending → List (List ℕ) → SourceSeen → SourceSeen → SinkSeen → SinkSeen
    → Type 0
EndsBy ending.Done texts heard left old new =
    WroteLines texts old new ×
    (HearsEnd heard left ⊎ ((length texts ≡ most_lines) × (left ≡ heard)))
EndsBy ending.Read texts heard left old new = WroteLines texts old new × HearsFault heard left
EndsBy ending.Write texts heard left old new = BreaksOff Failed texts old new × (left ≡ heard)
EndsBy ending.Memory texts heard left old new = BreaksOff NoMemory texts old new × (left ≡ heard)
EndsBy (ending.Fault fault) texts heard left old new = ⊥

-- From the state `start` on these lines were heard and decided, each after the one before it was
-- answered, and these are the texts of the decisions.
pub record Served (evidence : Bool) (effort : Effort) (start : Live) (how : Ending)
    (source left : SourceSeen) (old new : SinkSeen) : Type 0 where
  pub journal : List Entry
  pub texts : List (List ℕ)
  pub last : Live
  pub runs : Runs evidence effort start journal texts last
  pub heard : SourceSeen
  pub hears : HearsAll journal source heard
  pub ends : EndsBy how texts heard left old new

-- ---- the next line

-- what comes of the next line: a decision on what was heard of it; or nothing, and nothing changes
abbrev pub IsNext : Effort → ℕ → Next → Live → Live → SourceSeen → SourceSeen → Type 0
IsNext effort number (next.Answered it) old new source left =
    (heard : Heard) × Hears heard source left ×
    Serves effort number (entry heard it) old new
IsNext effort number next.End old new source left = HearsEnd source left × (new ≡ old)
IsNext effort number next.Fault old new source left = HearsFault source left × (new ≡ old)

-- the line of an answer went to the sink
abbrev pub Says : {X : Type 0} → Bool → Live → ℕ → Answer → SinkSeen → SinkSeen →
    Result X WriteFail → Type 0
Says evidence live number it old new result =
    (text : List ℕ) × IsTextOf evidence live number it.subject it.decision text ×
    SentLines (text ∷ []) old new result

-- the lines up to this number, which comes next, were served, and each was answered
pub record Serving (evidence : Bool) (effort : Effort) (start now : Live) (number : ℕ)
    (source left : SourceSeen) (old new : SinkSeen) : Type 0 where
  pub journal : List Entry
  pub texts : List (List ℕ)
  pub runs : Runs evidence effort start journal texts now
  pub number_is : number ≡ length journal + 1
  pub hears : HearsAll journal source left
  pub wrote : WroteLines texts old new
