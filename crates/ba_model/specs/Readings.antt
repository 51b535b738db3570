-- What a call returns, against what a reading gives. A reading is a value or a fault; a call may also want memory.
use Rattle.std.specs.Prelude.{◌≡◌, List, [], ◌∷◌, ◌++◌, Result, Ok, Err}
use Rattle.ba_model.specs.declared.failure.Failure.{Failure}
use Rattle.ba_model.specs.declared.failure.Failure.TheVariants.{NoMemory, Fault}

-- first this reading, then that of its value
infixl 10 ◌>>=◌
abbrev pub ◌>>=◌ : {A B F : Type 0} → Result A F → (A → Result B F) → Result B F
(Ok x) >>= f = f x
(Err e) >>= f = Err e

-- f of each, in order
abbrev pub each : {A B F : Type 0} → (A → Result B F) → List A → Result (List B) F
each f [] = Ok []
each f (x ∷ xs) = f x >>= λ y. (each f xs >>= λ ys. Ok (y ∷ ys))

-- those that f gives of each, in order
abbrev pub each_flat : {A B F : Type 0} → (A → Result (List B) F) → List A → Result (List B) F
each_flat f [] = Ok []
each_flat f (x ∷ xs) = f x >>= λ y. (each_flat f xs >>= λ ys. Ok (y ++ ys))

-- a reading whose faults are of a wider kind
abbrev pub widened : {A F G : Type 0} → (F → G) → Result A F → Result A G
widened into (Ok x) = Ok x
widened into (Err f) = Err (into f)

-- What was returned is what reading gives, unless memory ran out.
abbrev pub Fails : {Y F : Type 0} → Failure F → Result Y F → Type 0
Fails NoMemory reading = Unit {0}
Fails (Fault f) reading = reading ≡ Err f

abbrev pub Gives : {Y F : Type 0} → Result Y (Failure F) → Result Y F → Type 0
Gives (Ok x) reading = reading ≡ Ok x
Gives (Err e) reading = Fails e reading

-- the same of what was returned, seen by view
abbrev pub Sees : {X Y F : Type 0} → (X → Y) → Result X (Failure F) → Result Y F → Type 0
Sees view (Ok x) reading = reading ≡ Ok (view x)
Sees view (Err e) reading = Fails e reading

-- it isn't want of memory, and its fault is such a one
abbrev pub OfFault : {F : Type 0} → Failure F → (F → Type 0) → Type 0
OfFault NoMemory P = Unit {0}
OfFault (Fault f) P = P f

-- the same failure, its fault taken into a wider kind
abbrev pub Widened : {F G : Type 0} → (F → G → Type 0) → Failure F → Failure G → Type 0
Widened into NoMemory other = other ≡ NoMemory
Widened {F} {G} into (Fault f) other = (g : G) × (other ≡ Fault g) × into f g
