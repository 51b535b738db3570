-- When each answer of a plan comes.
use Rattle.std.specs.Prelude.{◌≡◌, ℕ, List, [], ◌∷◌, ◌++◌, take, Result, Ok, Err, ⊤}
use Rattle.ba_outside.specs.Causes.{Rose}
use Rattle.ba_outside.specs.Files.{PassesLimit}
use Rattle.ba_outside.specs.Seen.{FilesSeen}
use Rattle.ba_plan.specs.declared.stop.Stop.{Stop}
use Rattle.ba_plan.specs.declared.stop.Stop.TheVariants.{Refused, Read, TooLong, NoMemory}

-- the file is the last name that was asked for
pub record IsLastAsked (file : List ℕ) (new : FilesSeen) : Type 0 where
  pub earlier : List (List ℕ)
  pub asked : new.asked ≡ earlier ++ file ∷ []

-- the count of faults rose, and the file is the last name that was asked for
pub record FailedAt (file : List ℕ) (old new : FilesSeen) : Type 0 where
  pub rose : Rose old.faults new.faults
  pub last : IsLastAsked file new

-- the file passes the limit, and is the last name that was asked for
pub record LongAt (file : List ℕ) (limit : ℕ) (old new : FilesSeen) : Type 0 where
  pub passes : PassesLimit old.held file limit old.taken new.taken
  pub last : IsLastAsked file new

-- the names asked for in between are the first of these
abbrev pub AsksFront : List (List ℕ) → List (List ℕ) → List (List ℕ) → Type 0
AsksFront old new names = (n : ℕ) × (new ≡ old ++ take n names)

-- an answer that is neither a read fault nor want of memory is this one
abbrev pub Settles : {E X : Type 0} → Result X (Stop E) → Result X (Stop E) → Type 0
Settles (Ok x) whole = whole ≡ Ok x
Settles (Err (Refused e)) whole = whole ≡ Err (Refused e)
Settles (Err (TooLong file limit)) whole = whole ≡ Err (TooLong file limit)
Settles (Err (Read file)) whole = ⊤
Settles (Err NoMemory) whole = ⊤
