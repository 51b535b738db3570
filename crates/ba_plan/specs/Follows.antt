-- How a plan may go, whatever the files do.
use Rattle.std.specs.Prelude.{◌≡◌, ◌⊎◌, ℕ, ◌≤◌, List, [], ◌∷◌, ◌++◌, length, Result, Ok, Err, ⊤, MatchResult, IsErrAnd}
use Rattle.ba_outside.specs.Causes.{Rose}
use Rattle.ba_outside.specs.Seen.{FilesSeen}
use Rattle.ba_outside.specs.Files.{Tells, PassesLimit}
use Rattle.ba_plan.specs.declared.stop.Stop.{Stop}
use Rattle.ba_plan.specs.declared.stop.Stop.TheVariants.{Refused, Read, TooLong, NoMemory}
use Rattle.ba_plan.specs.Plan.{Plan, done, refuse, ask}

-- the files hold the same, and no count fell
pub record Moved (old new : FilesSeen) : Type 0 where
  pub held : new.held ≡ old.held
  pub taken : old.taken ≤ new.taken
  pub faults : old.faults ≤ new.faults

-- one more name was asked for
pub record Asked (name : List ℕ) (old new : FilesSeen) : Type 0 where
  pub moved : Moved old new
  pub asked : new.asked ≡ old.asked ++ name ∷ []

-- no fault was counted
abbrev pub Faultless : FilesSeen → FilesSeen → Type 0
Faultless old new = new.faults ≡ old.faults

-- a call gave these bytes
pub record Got (name : List ℕ) (limit : ℕ) (bytes : List ℕ) (old new : FilesSeen) : Type 0 where
  pub asked : Asked name old new
  pub faultless : Faultless old new
  pub tells : Tells old.held name bytes
  pub within : length bytes ≤ limit

-- a call gave none; where memory ran out, that may be for the name of a file that failed
abbrev pub Missed : {E : Type 0} → List ℕ → ℕ → FilesSeen → FilesSeen → Stop E → Type 0
Missed name limit old new (Read file) =
    (file ≡ name) × Asked name old new × Rose old.faults new.faults
Missed name limit old new (TooLong file n) =
    (file ≡ name) × (n ≡ limit) × Asked name old new
    × PassesLimit old.held name limit old.taken new.taken × Faultless old new
Missed name limit old new NoMemory =
    Moved old new × ((new.asked ≡ old.asked) ⊎ (new.asked ≡ old.asked ++ name ∷ []))
Missed name limit old new (Refused e) = ⊥

-- one call answered this
abbrev pub Calls : {E : Type 0} → List ℕ → ℕ → FilesSeen → FilesSeen → Result (List ℕ) (Stop E)
    → Type 0
Calls name limit old new result =
    MatchResult result (λ bytes. Got name limit bytes old new) (Missed name limit old new)

-- what was answered is this reading, or want of memory
abbrev pub Gives : {E X : Type 0} → Result X (Stop E) → Result X E → Type 0
Gives (Ok x) reading = reading ≡ Ok x
Gives (Err (Refused e)) reading = reading ≡ Err e
Gives (Err (Read file)) reading = ⊥
Gives (Err (TooLong file limit)) reading = ⊥
Gives (Err NoMemory) reading = ⊤

-- The plan was followed from the old files to the new ones, and came to this result: its calls gave
-- bytes one after another, to the end of the plan or up to a call that gave none.
abbrev pub Follows : {E X : Type 0} → Plan E X → FilesSeen → FilesSeen → Result X (Stop E) → Type 0
Follows (done x) old new result = Gives result (Ok x) × (new ≡ old)
Follows (refuse e) old new result = Gives result (Err e) × (new ≡ old)
Follows (ask name limit next) old new result = IsErrAnd result (Missed name limit old new)
    ⊎ ((bytes : List ℕ) × (mid : FilesSeen) × Got name limit bytes old mid
    × Follows (next bytes) mid new result)
