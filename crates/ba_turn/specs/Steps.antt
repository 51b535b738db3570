-- What each step on the table tells the pass that makes it.
use mathlib.Core.List.{IsPrefix}
use Rattle.std.specs.Prelude.{◌≡◌, ◌≢◌, ℕ, ◌<◌, ◌≤◌, List, [], ◌∷◌, ◌++◌, map, length, Option, Some}
use Rattle.atomic_table.specs.Table.{Me, Step}
use Rattle.ba_turn.specs.declared.known.Kept.{Kept}
use Rattle.ba_turn.specs.declared.known.Known.{Known}
use Rattle.ba_turn.specs.History.{calls_by, entry_of, AreDistinct}
use Rattle.ba_turn.specs.Knowing.{with_ticket, with_turn, after_put, SumsToAllowance, numbers_of, HasAllCalls}
use Rattle.ba_turn.specs.Rule.{StandsAt}

-- what a seat knows, and the slots that it holds
abbrev pub SeatOf : Type 0 → Type 0 → Type 0
SeatOf S E = Me (Option (Kept S)) (Known S E)

abbrev pub StepOn : Type 0 → Type 0
StepOn S = Step (Option (Kept S))

module _ {S E : Type 0} where
  -- the number found is the pass's ticket
  abbrev pub Draws : StepOn S → SeatOf S E → ℕ → SeatOf S E → Type 0
  Draws st m n m' = m' ≡ (with_ticket n m.0, m.1)

  -- nothing changes. The pass learns how the two histories of its last join lie, whether all calls are back, and whose they are
  abbrev pub Settles : StepOn S → SeatOf S E → ℕ → SeatOf S E → Type 0
  Settles st m n m' = (m' ≡ m) × (length m.0.behind ≤ length m.0.seen → IsPrefix m.0.behind m.0.seen) × SumsToAllowance m.0 × AreDistinct (numbers_of m.0) × HasAllCalls m.0

  -- the value k goes home with one entry e more. The pass has then seen the whole history up to e, in which its number has just its own calls
  abbrev pub CallsOn : (S → List E) → StepOn S → SeatOf S E → ℕ → SeatOf S E → Type 0
  CallsOn history st m n m' = (e : E) (k : Kept S) → m.1 ≡ (0, Some k) ∷ [] → history k.value ≡ map entry_of m.0.found ++ e ∷ []
      → (m' ≡ (after_put e m.0, [])) × IsPrefix m.0.seen m.0.found × (calls_by m.0.number (after_put e m.0).seen ≡ (after_put e m.0).made) × SumsToAllowance (after_put e m.0)

module _ {S E O : Type 0} (opening : S → O) (history : S → List E) (room : S → ℕ) where
  -- what a pass knows of the value when its turn comes
  pub record IsTaken (v : Known S E) (found : List (ℕ × E)) (k : Kept S) : Type 0 where
    pub stands : (start : S) → v.start ≡ Some start → StandsAt opening history room start v.allowance found k
    pub seen : IsPrefix v.seen found
    pub below : length found < v.allowance

  -- where its number is served, the pass has the turn and the slot. Else nothing changes
  abbrev pub Looks : StepOn S → SeatOf S E → ℕ → SeatOf S E → Type 0
  Looks st m n m' =
      (n ≡ m.0.ticket → (found : List (ℕ × E)) × (k : Kept S) × (m' ≡ (with_turn found m.0, (0, Some k) ∷ [])) × IsTaken m.0 found k)
      × (n ≢ m.0.ticket → m' ≡ m)
