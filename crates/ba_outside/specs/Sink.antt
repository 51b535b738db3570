-- What a write of a piece does to the pieces handed over, and to the count of faults.
use Rattle.std.specs.Prelude.{map, ◌≡◌, ◌⊎◌, ℕ, List, [], ◌∷◌, ◌++◌, Option, Some, None, Result, Ok, Err, ⊤}
use Rattle.std.specs.Prelude.{Vec}
use Rattle.std.specs.declared.alloc.Global.{Global}
use Rattle.ba_outside.specs.Causes.{Rose}
use Rattle.ba_outside.specs.declared.sink.WriteFail.{WriteFail}
use Rattle.ba_outside.specs.declared.sink.WriteFail.TheVariants.{Failed, NoMemory}

-- the pieces told have grown by these
abbrev pub Grows : Option (List (List ℕ)) → Option (List (List ℕ)) → List (List ℕ) → Type 0
Grows None new more = ⊤
Grows (Some pieces) None more = ⊥
Grows (Some pieces) (Some grown) more = grown ≡ pieces ++ more

-- an empty piece is none
abbrev pub pieces_of : List ℕ → List (List ℕ)
pieces_of [] = []
pieces_of (byte ∷ bytes) = (byte ∷ bytes) ∷ []

-- one more piece was handed over, unless it is empty; a call that found no memory may have left it
-- out
abbrev pub Hands : {X : Type 0} → Option (List (List ℕ)) → Option (List (List ℕ)) → List ℕ
    → Result X WriteFail → Type 0
Hands old new piece (Ok x) = Grows old new (pieces_of piece)
Hands old new piece (Err Failed) = Grows old new (pieces_of piece)
Hands old new piece (Err NoMemory) = Grows old new [] ⊎ Grows old new (pieces_of piece)

-- the count of faults rose with a failure, and is as before after every other answer
abbrev pub CountsFailure : {X : Type 0} → ℕ → ℕ → Result X WriteFail → Type 0
CountsFailure before now (Ok x) = now ≡ before
CountsFailure before now (Err Failed) = Rose before now
CountsFailure before now (Err NoMemory) = now ≡ before

-- the bytes of vectors
abbrev pub lists_of : List (Vec ℕ Global) → List (List ℕ)
lists_of pieces = map (λ piece. piece.items) pieces
