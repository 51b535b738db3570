-- Histories whose entries carry the number of the pass that made them.
use Rattle.std.specs.Prelude.{◌≡◌, ◌≢◌, ℕ, ◌==◌, List, [], ◌∷◌, map, length, filter, nat_le, if◌then◌else◌, AllPairs}

abbrev pub number_of : {E : Type 0} → ℕ × E → ℕ
number_of c = c.0

abbrev pub entry_of : {E : Type 0} → ℕ × E → E
entry_of c = c.1

-- the calls of one number, in their order
abbrev pub calls_by : {E : Type 0} → ℕ → List (ℕ × E) → List E
calls_by n log = map entry_of (filter (λ c. number_of c == n) log)

-- of each of these numbers the history has just the calls that stand beside it
abbrev pub HasCalls : {E : Type 0} → List (ℕ × E) → List (ℕ × List E) → Type 0
HasCalls log [] = Unit {0}
HasCalls log (k ∷ ks) = (calls_by k.0 log ≡ k.1) × HasCalls log ks

-- no number stands twice
abbrev pub AreDistinct : List ℕ → Type 0
AreDistinct ns = AllPairs (λ n m. n ≢ m) ns

-- of two histories the longer, or the second where they are as long, and the other one
abbrev pub longer_of : {E : Type 0} → List (ℕ × E) → List (ℕ × E) → List (ℕ × E)
longer_of a b = if nat_le (length a) (length b) then b else a

abbrev pub shorter_of : {E : Type 0} → List (ℕ × E) → List (ℕ × E) → List (ℕ × E)
shorter_of a b = if nat_le (length a) (length b) then a else b
