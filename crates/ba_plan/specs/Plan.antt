-- How files are read: which name is asked for next, given what came so far.
use Rattle.std.specs.Prelude.{ℕ, List, [], ◌∷◌, length, Option, Some, None, Result, Ok, Err, if◌then◌else◌, nat_lt}
use Rattle.ba_outside.specs.Seen.{Contents}
use Rattle.ba_plan.specs.declared.stop.Stop.{Stop}
use Rattle.ba_plan.specs.declared.stop.Stop.TheVariants.{Refused, Read, TooLong}

-- it is done, or refuses, or asks for a file of at most so many bytes and goes on from these
pub data Plan (E X : Type 0) : Type 0 where
  done : X → Plan E X
  refuse : E → Plan E X
  ask : List ℕ → ℕ → (List ℕ → Plan E X) → Plan E X

-- one plan and then another
infixl 10 ◌>>=◌
abbrev pub ◌>>=◌ : {E A B : Type 0} → Plan E A → (A → Plan E B) → Plan E B
(done x) >>= f = f x
(refuse e) >>= f = refuse e
(ask name limit next) >>= f = ask name limit (λ bytes. next bytes >>= f)

-- what a reading of bytes found
abbrev pub found : {E X : Type 0} → Result X E → Plan E X
found (Ok x) = done x
found (Err e) = refuse e

-- what comes of a file: it is missing, or longer than the limit, or read
abbrev pub comes_of : {Y : Type 0} → Option (List ℕ) → ℕ → Y → Y → (List ℕ → Y) → Y
comes_of None limit missing long next = missing
comes_of (Some bytes) limit missing long next =
    if nat_lt limit (length bytes) then long else next bytes

-- What the plan comes to where the contents are told, nothing fails and memory suffices.
abbrev pub outcome_of : {E X : Type 0} → Contents → Plan E X → Result X (Stop E)
outcome_of contents (done x) = Ok x
outcome_of contents (refuse e) = Err (Refused e)
outcome_of contents (ask name limit next) =
    comes_of (contents name) limit (Err (Read name)) (Err (TooLong name limit))
    (λ bytes. outcome_of contents (next bytes))

-- The names that it asks for then, in order.
abbrev pub names_of : {E X : Type 0} → Contents → Plan E X → List (List ℕ)
names_of contents (done x) = []
names_of contents (refuse e) = []
names_of contents (ask name limit next) =
    name ∷ comes_of (contents name) limit [] [] (λ bytes. names_of contents (next bytes))
