-- Passes of a turn, and what a pass has taken.
use mathlib.Core.List.{IsPrefix}
use Rattle.std.specs.Prelude.{◌≡◌, ℕ, ◌+◌, ◌<◌, ◌≤◌, true, false, List, [], ◌∷◌, ◌++◌, map, length, Some, None, vec_capacity}
use Rattle.ba_turn.specs.declared.known.Known.{Known}
use Rattle.ba_turn.specs.declared.held.Held.{Held}
use Rattle.ba_turn.specs.declared.pass.Pass.{Pass}
use Rattle.ba_turn.specs.declared.turn.Turn.{Turn}
use Rattle.ba_turn.specs.History.{calls_by, number_of, entry_of}
use Rattle.ba_turn.specs.Knowing.{SumsToAllowance}
use Rattle.ba_turn.specs.Rule.{StandsAt}

-- what a pass knows
abbrev pub known_by : {S E : Type 0} → Pass S E → Known S E
known_by p = p.seat.me.0

-- the value that is lent
abbrev pub value_of : {S : Type 0} → Held S → S
value_of h = h.kept.value

-- the same with another value, once one was written
abbrev pub with_value : {S : Type 0} → Held S → S → Held S
with_value h w = record { kept = record { value = w; by = h.kept.by } }

module _ {S O E : Type 0} where
  -- the value that the turn was made with, and the calls that it allows
  abbrev pub start_of : Turn S O E → S
  start_of t = t.table.shared.key.start.value

  abbrev pub allowance_of : Turn S O E → ℕ
  allowance_of t = t.table.shared.key.allowance

  pub record IsPassOf (t : Turn S O E) (p : Pass S E) : Type 0 where
    pub table : p.seat.table_id ≡ t.table.shared.table_id
    pub start : (known_by p).start ≡ Some (start_of t)
    pub allowance : (known_by p).allowance ≡ allowance_of t
    pub live : (known_by p).live ≡ true

  -- a pass of the turn that holds no ticket
  pub record IsFree (t : Turn S O E) (p : Pass S E) : Type 0 where
    pub of : IsPassOf t p
    pub no_ticket : (known_by p).has_ticket ≡ false
    pub no_turn : (known_by p).has_turn ≡ false
    pub no_slot : p.seat.me.1 ≡ []

  -- a pass of the turn whose number is served, and which has taken the value out
  pub record HasTurn (t : Turn S O E) (p : Pass S E) : Type 0 where
    pub of : IsPassOf t p
    pub ticket : (known_by p).has_ticket ≡ true
    pub turn : (known_by p).has_turn ≡ true
    pub slot : p.seat.me.1 ≡ (0, None) ∷ []

module _ {S E O : Type 0} (opening : S → O) (history : S → List E) (room : S → ℕ) where
  -- what is lent stands at the history that the pass found
  abbrev pub IsHeldAt : Turn S O E → Pass S E → Held S → Type 0
  IsHeldAt t p h = StandsAt opening history room (start_of t) (allowance_of t) (known_by p).found h.kept

  -- the value may be put back: since the pass took it, its history has grown by the entry e, and its room has fallen by one at most
  pub record IsGrown (t : Turn S O E) (p : Pass S E) (h : Held S) (e : E) : Type 0 where
    pub opening_is : opening (value_of h) ≡ opening (start_of t)
    pub history_is : history (value_of h) ≡ map entry_of (known_by p).found ++ e ∷ []
    pub room_is : allowance_of t ≤ room (value_of h) + (length (known_by p).found + 1)
    pub below : length (known_by p).found < allowance_of t
    pub numbers_are : h.kept.by.items ≡ map number_of (known_by p).found
    pub numbers_room : allowance_of t ≤ vec_capacity h.kept.by

-- What a whole call e, from `take` to `put`, does to what a pass knows: the history begins with all that the pass had seen and ends with the call, and of the pass's number it has just the calls that the pass made
pub record MakesCall {S E : Type 0} (v w : Known S E) (e : E) : Type 0 where
  pub seen : (between : List (ℕ × E)) × IsPrefix v.seen between × (w.seen ≡ between ++ (v.number, e) ∷ [])
  pub made : w.made ≡ v.made ++ e ∷ []
  pub own : calls_by w.number w.seen ≡ w.made
  pub left : w.left + 1 ≡ v.left
  pub number : w.number ≡ v.number
  pub splits : w.splits ≡ v.splits
  pub joined : w.joined ≡ v.joined
  pub start : w.start ≡ v.start
  pub allowance : w.allowance ≡ v.allowance
  pub sums : SumsToAllowance w
