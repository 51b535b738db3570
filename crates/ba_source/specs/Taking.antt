-- What a call on a source of lines answers, and what it leaves.
use Rattle.std.specs.Prelude.{◌≡◌, ℕ, ◌<◌, List, [], ◌∷◌, length, Option, Some, None, Result, Ok, Err}
use Rattle.std.specs.Prelude.{Vec}
use Rattle.std.specs.declared.alloc.Global.{Global}
use Rattle.ba_outside.specs.Causes.{Rose}
use Rattle.ba_source.specs.declared.source.SourceFail.{SourceFail}
use Rattle.ba_source.specs.declared.source.SourceFail.TheVariants.{Fault, TooLong, NoMemory}

-- what a call answers: a line, or that there is none left
abbrev pub Answer : Type 0
Answer = Result (Option (Vec ℕ Global)) SourceFail

-- how many lines a call takes: one, if it is given, too long, or there is no memory for it
abbrev pub count_taken : Answer → ℕ
count_taken (Ok (Some line)) = 1
count_taken (Ok None) = 0
count_taken (Err Fault) = 0
count_taken (Err (TooLong limit)) = 1
count_taken (Err NoMemory) = 1

-- a first line, of which this is so, is gone
pub record TakesFirst (P : List ℕ → Type 0) (lines : List (List ℕ)) (new : Option (List (List ℕ)))
    : Type 0 where
  pub line : List ℕ
  pub rest : List (List ℕ)
  pub lines_are : lines ≡ line ∷ rest
  pub is : P line
  pub new_is : new ≡ Some rest

-- What a call leaves of these lines: the line that it gives is the first, and is gone; none are
-- left where it gives none; after a fault they are as before; a line that is too long, or for which
-- there is no memory, is gone.
abbrev pub Takes : List (List ℕ) → Option (List (List ℕ)) → ℕ → Answer → Type 0
Takes lines new limit (Ok (Some bytes)) = TakesFirst (λ line. line ≡ bytes.items) lines new
Takes lines new limit (Ok None) = (lines ≡ []) × (new ≡ Some [])
Takes lines new limit (Err Fault) = new ≡ Some lines
Takes lines new limit (Err (TooLong n)) = TakesFirst (λ line. limit < length line) lines new
Takes lines new limit (Err NoMemory) = TakesFirst (λ line. Unit {0}) lines new

-- the same where the lines are told; nothing is told later where it isn't
abbrev pub Leaves : Option (List (List ℕ)) → Option (List (List ℕ)) → ℕ → Answer → Type 0
Leaves None new limit answer = new ≡ None
Leaves (Some lines) new limit answer = Takes lines new limit answer

-- the count of faults rose with a fault, and is as before after every other answer
abbrev pub CountsFault : {X : Type 0} → ℕ → ℕ → Result X SourceFail → Type 0
CountsFault before now (Ok x) = now ≡ before
CountsFault before now (Err Fault) = Rose before now
CountsFault before now (Err (TooLong n)) = now ≡ before
CountsFault before now (Err NoMemory) = now ≡ before
