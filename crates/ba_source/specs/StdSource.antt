-- What a source over a reader has read and not given yet, and what a call takes of that.
use Rattle.std.specs.Prelude.{◌≡◌, ◌≢◌, ◌⊎◌, ℕ, ◌<◌, ◌≤◌, ◌==◌, List, [], ◌∷◌, ◌++◌, All, Bool, Option, Some, None, Ok, Err, ⊤, length}
use Rattle.std.specs.Io.KnownBytes.{prepend_known}
use Rattle.ba_source.specs.Taking.{Answer}
use Rattle.ba_source.specs.declared.source.SourceFail.TheVariants as fail
use Rattle.ba_source.specs.declared.std_source.Line.{Line}
use Rattle.ba_source.specs.declared.std_source.Line.TheVariants.{Kept, TooLong, NoMemory}
use Rattle.ba_source.specs.declared.std_source.StdSource.{StdSource}

-- what is kept of it has at most so many bytes
abbrev pub IsWithin : ℕ → Line → Type 0
IsWithin limit (Kept bytes) = length bytes.items ≤ limit
IsWithin limit TooLong = ⊤
IsWithin limit NoMemory = ⊤

-- it stands for these bytes: it keeps them, or they are too many, or there was no memory
abbrev pub StandsFor : ℕ → List ℕ → Line → Type 0
StandsFor limit bytes (Kept kept) = kept.items ≡ bytes
StandsFor limit bytes TooLong = limit < length bytes
StandsFor limit bytes NoMemory = ⊤

-- whether a byte is a line feed
abbrev pub is_feed : ℕ → Bool
is_feed b = b == 10

-- no byte is a line feed
abbrev pub HasNoFeed : List ℕ → Type 0
HasNoFeed bytes = All (λ b. b ≢ 10) bytes

-- what was read and not taken yet, and what the reader will give, where that is known
abbrev pub ahead : {R : Type 0} → (R → Option (List ℕ)) → StdSource R → Option (List ℕ)
ahead remaining s = prepend_known s.unread (remaining s.reader)

-- a call that comes to the end of a line with these bytes tells them, or that they are too many
abbrev pub Tells : ℕ → List ℕ → Answer → Type 0
Tells limit line (Ok (Some bytes)) = line ≡ bytes.items
Tells limit line (Ok None) = ⊥
Tells limit line (Err fail.Fault) = ⊥
Tells limit line (Err (fail.TooLong n)) = limit < length line
Tells limit line (Err fail.NoMemory) = ⊤

-- A line is gone: it has no line feed, and had one behind it, which is gone too, or was the last,
-- and then it isn't empty.
pub record TakesLine (limit : ℕ) (before after : List ℕ) (answer : Answer) : Type 0 where
  pub line : List ℕ
  pub one : HasNoFeed line
  pub told : Tells limit line answer
  pub ends : (before ≡ line ++ 10 ∷ after) ⊎ ((before ≡ line) × (line ≢ []) × (after ≡ []))

-- what was read of a line is lost
pub record LosesFront (before after : List ℕ) : Type 0 where
  pub front : List ℕ
  pub part : HasNoFeed front
  pub are : before ≡ front ++ after

-- What a call takes of these bytes: none, where none are left; the front of a line, where reading
-- fails; else exactly a line with its line feed.
abbrev pub TakesOf : ℕ → List ℕ → List ℕ → Answer → Type 0
TakesOf limit old new (Ok None) = (old ≡ []) × (new ≡ [])
TakesOf limit old new (Err fail.Fault) = LosesFront old new
TakesOf limit old new (Ok (Some bytes)) = TakesLine limit old new (Ok (Some bytes))
TakesOf limit old new (Err (fail.TooLong n)) = TakesLine limit old new (Err (fail.TooLong n))
TakesOf limit old new (Err fail.NoMemory) = TakesLine limit old new (Err fail.NoMemory)

-- the same where the bytes are known
abbrev pub TakesKnown : ℕ → Option (List ℕ) → Option (List ℕ) → Answer → Type 0
TakesKnown limit None after answer = ⊤
TakesKnown limit (Some before) None answer = ⊥
TakesKnown limit (Some before) (Some after) answer = TakesOf limit before after answer
