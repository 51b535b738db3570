-- What a decision service heard and decided, line by line.
use Rattle.std.specs.Prelude.{◌≡◌, ◌⊎◌, ℕ, ◌+◌, Bool, List, [], ◌∷◌, ◌++◌, length, Ok, Err, ⊤}
use Rattle.ba_event.specs.Events.{event_of}
use Rattle.ba_event.specs.declared.event.Event.{Event}
use Rattle.ba_event.specs.declared.event.EventFault.TheVariants as bad
use Rattle.ba_judge.specs.Shelves.{Learns}
use Rattle.ba_live.specs.Books.{LeavesAll}
use Rattle.ba_live.specs.Steps.{Decides, Stays}
use Rattle.ba_live.specs.Subjects.{subject_of}
use Rattle.ba_live.specs.declared.decision.Decision.{Decision}
use Rattle.ba_live.specs.declared.decision.Decision.TheVariants.{Memory, Refused}
use Rattle.ba_live.specs.declared.decision.Refusal.TheVariants.{Json, Long, Shape}
use Rattle.ba_live.specs.declared.decision.Subject.{Subject}
use Rattle.ba_live.specs.declared.decision.Subject.TheVariants.{Nobody}
use Rattle.ba_live.specs.declared.live.Live.{Live}
use Rattle.ba_settle.specs.Settling.{Effort}
use Rattle.ba_decide.specs.Evident.{IsTextOf}

-- what came of a line: its bytes; that it is too long; or nothing, for want of memory
pub data Heard : Type 0 where
  said : List ℕ → Heard
  too_long : Heard
  lost : Heard

-- a line, whom it is about, and the decision on it
pub record Entry : Type 0 where
  pub heard : Heard
  pub subject : Subject
  pub decision : Decision

-- the bytes say an event, and this is the decision on it
pub record Means (effort : Effort) (number : ℕ) (bytes : List ℕ) (it : Entry) (old new : Live)
    : Type 0 where
  pub event : Event
  pub says : event_of bytes ≡ Ok event
  pub about : it.subject ≡ subject_of event
  pub decides : Decides effort number event it.decision old new

-- the bytes say nothing, for this reason; or there was no memory to read them
abbrev pub SaysNothing : List ℕ → Decision → Type 0
SaysNothing bytes (Refused Json) = event_of bytes ≡ Err bad.Json
SaysNothing bytes (Refused Shape) = event_of bytes ≡ Err bad.Shape
SaysNothing bytes Memory = ⊤
SaysNothing bytes _ = ⊥

-- a line that says nothing changes nothing
pub record Ignores (bytes : List ℕ) (it : Entry) (old new : Live) : Type 0 where
  pub about : it.subject ≡ Nobody
  pub nothing : SaysNothing bytes it.decision
  pub leaves : LeavesAll old new

-- nor does a line whose bytes aren't known
pub record IsUnheard (decision : Decision) (it : Entry) (old new : Live) : Type 0 where
  pub about : it.subject ≡ Nobody
  pub decision_is : it.decision ≡ decision
  pub leaves : LeavesAll old new

-- what becomes of the line of this number
abbrev pub ServesHeard : Effort → ℕ → Heard → Entry → Live → Live → Type 0
ServesHeard effort number (said bytes) it old new =
    Means effort number bytes it old new ⊎ Ignores bytes it old new
ServesHeard effort number too_long it old new = IsUnheard (Refused Long) it old new
ServesHeard effort number lost it old new = IsUnheard Memory it old new

pub record Serves (effort : Effort) (number : ℕ) (it : Entry) (old new : Live) : Type 0 where
  pub heard : ServesHeard effort number it.heard it old new
  pub stays : Stays old new
  pub learns : Learns old.shelves new.shelves

-- The lines were served one after another, from the first state on, and left the last one; and
-- these are the texts of the decisions, plain or with their evidence.
pub data Runs (evidence : Bool) (effort : Effort) (start : Live)
    : List Entry → List (List ℕ) → Live → Type 0 where
  none : Runs evidence effort start [] [] start
  next : {earlier : List Entry} {texts : List (List ℕ)} {old new : Live} (it : Entry)
      (text : List ℕ) → Runs evidence effort start earlier texts old →
      Serves effort (length earlier + 1) it old new →
      IsTextOf evidence new (length earlier + 1) it.subject it.decision text →
      Runs evidence effort start (earlier ++ it ∷ []) (texts ++ text ∷ []) new
