-- What a read of a file answers.
use Rattle.std.specs.Prelude.{◌≡◌, ◌⊎◌, ℕ, ◌<◌, List, [], ◌∷◌, ◌++◌, length, Option, Some, None, Result, Ok, Err, IfSome, IsSomeAnd}
use Rattle.ba_outside.specs.Causes.{Rose, RoseBeyond}
use Rattle.ba_outside.specs.Seen.{Contents}
use Rattle.ba_outside.specs.declared.files.ReadFail.{ReadFail}
use Rattle.ba_outside.specs.declared.files.ReadFail.TheVariants.{NoMemory, Fault, TooLong}

-- one more name was asked for; a call that found no memory may have left it out
abbrev pub Asks : {X : Type 0} → List (List ℕ) → List (List ℕ) → List ℕ → Result X ReadFail → Type 0
Asks old new name (Ok x) = new ≡ old ++ name ∷ []
Asks old new name (Err Fault) = new ≡ old ++ name ∷ []
Asks old new name (Err (TooLong n)) = new ≡ old ++ name ∷ []
Asks old new name (Err NoMemory) = (new ≡ old) ⊎ (new ≡ old ++ name ∷ [])

-- the count of faults rose with a fault, and is as before after every other answer
abbrev pub CountsFault : {X : Type 0} → ℕ → ℕ → Result X ReadFail → Type 0
CountsFault before now (Ok x) = now ≡ before
CountsFault before now (Err Fault) = Rose before now
CountsFault before now (Err (TooLong n)) = now ≡ before
CountsFault before now (Err NoMemory) = now ≡ before

-- the name holds these bytes, where that is told
abbrev pub Tells : Option Contents → List ℕ → List ℕ → Type 0
Tells held name bytes = IfSome held (λ contents. contents name ≡ Some bytes)

-- the name holds more bytes than the limit; where nothing is told, more were taken, or their number
-- stands at its last value
abbrev pub PassesLimit : Option Contents → List ℕ → ℕ → ℕ → ℕ → Type 0
PassesLimit None name limit before now = RoseBeyond limit before now
PassesLimit (Some contents) name limit before now =
    IsSomeAnd (contents name) (λ bytes. limit < length bytes)
