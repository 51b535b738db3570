-- The rule of a turn: what holds of its two words, its slot and all that its passes know, between any two steps.
use mathlib.Core.List.{IsPrefix}
use mathlib.Core.Option.{some, none}
use mathlib.Core.Option as maybe
use lib.ListN.{get_elem?}
use Rattle.std.specs.Prelude.{◌≡◌, ℕ, ◌+◌, ◌^◌, ◌<◌, ◌≤◌, Bool, true, false, List, [], ◌∷◌, map, length, sum_by, Option, Some, if◌then◌else◌, vec_capacity}
use Rattle.atomic_table.specs.Table.{State}
use Rattle.ba_turn.specs.declared.known.Kept.{Kept}
use Rattle.ba_turn.specs.declared.known.Known.{Known}
use Rattle.ba_turn.specs.History.{calls_by, number_of, entry_of, AreDistinct}
use Rattle.ba_turn.specs.Knowing.{numbers_of}

-- What lies behind a table. A seat is named by the place of its view among all views
pub record Scene (S E : Type 0) : Type 0 where
  pub ticket : ℕ
  pub serving : ℕ
  -- every call so far, with the number of its pass
  pub log : List (ℕ × E)
  -- whether the slot is out, and what it had when it was last at home
  pub out : Bool
  pub kept : Kept S
  -- the seat that holds a ticket
  pub owner : ℕ → ℕ
  -- one more than the seat that has a pass number, and 0 where no seat has it
  pub place : ℕ → ℕ
  -- the greatest pass number, and how many passes were joined
  pub last : ℕ
  pub gone : ℕ

-- The slot at home, or out
abbrev pub slot_of : {S : Type 0} → Bool → Kept S → maybe.Option (Option (Kept S))
slot_of true k = none
slot_of false k = some (Some k)

-- no seat has a number that was joined, and the log has just these calls of it
pub record IsJoined {S E : Type 0} (x : Scene S E) (n : ℕ) (calls : List E) : Type 0 where
  pub calls_are : calls_by n x.log ≡ calls
  pub free : x.place n ≡ 0
  pub known : n ≤ x.last

abbrev pub AllJoined : {S E : Type 0} → Scene S E → List (ℕ × List E) → Type 0
AllJoined x [] = Unit {0}
AllJoined x (k ∷ ks) = IsJoined x k.0 k.1 × AllJoined x ks

-- What the live seat id knows is true
pub record IsTrueOf {S E : Type 0} (start : S) (allowance : ℕ) (x : Scene S E) (id : ℕ) (v : Known S E) : Type 0 where
  pub seen : IsPrefix v.seen x.log
  pub behind : IsPrefix v.behind x.log
  -- its number is its own, and the log has just the calls that it made
  pub made : calls_by v.number x.log ≡ v.made
  pub placed : x.place v.number ≡ id + 1
  pub known : v.number ≤ x.last
  pub joined : AllJoined x v.joined
  -- the numbers of the passes that it joined differ among each other, and from its own
  pub apart : AreDistinct (numbers_of v)
  -- the opening pass counts the others
  pub opens : v.number ≡ 0 → (v.splits ≡ x.last) × (length v.joined ≡ x.gone)
  -- its ticket is its own, and waits or is served
  pub has_ticket : v.has_ticket ≡ true → (x.serving ≤ v.ticket) × (v.ticket < x.ticket) × (x.owner v.ticket ≡ id) × (v.ticket ≡ x.serving → x.out ≡ v.has_turn)
  -- with the turn it has the slot, and knows the whole log
  pub has_turn : v.has_turn ≡ true → (v.has_ticket ≡ true) × (v.ticket ≡ x.serving) × (x.out ≡ true) × (v.found ≡ x.log)
  pub start_is : v.start ≡ Some start
  pub allowance_is : v.allowance ≡ allowance

abbrev pub left_of : {S E : Type 0} → Known S E → ℕ
left_of v = v.left

abbrev pub live_of : {S E : Type 0} → Known S E → ℕ
live_of v = if v.live then 1 else 0

-- the live seat j holds the ticket k
pub record HoldsTicket {S E : Type 0} (views : List (Known S E)) (j k : ℕ) : Type 0 where
  pub view : Known S E
  pub at : get_elem? views j ≡ some view
  pub live : view.live ≡ true
  pub has_ticket : view.has_ticket ≡ true
  pub ticket : view.ticket ≡ k

-- some live seat has seen n entries
pub record SomeHasSeen {S E : Type 0} (views : List (Known S E)) (n : ℕ) : Type 0 where
  pub seat : ℕ
  pub view : Known S E
  pub at : get_elem? views seat ≡ some view
  pub live : view.live ≡ true
  pub seen : length view.seen ≡ n

module _ {S E O : Type 0} (opening : S → O) (history : S → List E) (room : S → ℕ) where
  -- What is kept stands at this log: the opening state, the entries with their numbers, and room for all calls to come
  pub record StandsAt (start : S) (allowance : ℕ) (log : List (ℕ × E)) (k : Kept S) : Type 0 where
    pub opening_is : opening k.value ≡ opening start
    pub history_is : history k.value ≡ map entry_of log
    pub numbers_are : k.by.items ≡ map number_of log
    pub room_is : allowance ≤ room k.value + length log
    pub numbers_room : allowance ≤ vec_capacity k.by

  -- The rule. The words are ticket and serving, the slot has the value, and a pass that was joined counts nowhere
  pub record TakesTurns (start : S) (allowance : ℕ) (s : State (Option (Kept S)) (Known S E)) : Type 0 where
    pub x : Scene S E
    pub words : s.words ≡ x.ticket ∷ x.serving ∷ []
    pub homes : s.homes ≡ slot_of x.out x.kept ∷ []
    pub small : allowance < 2 ^ 32
    pub order : x.serving ≤ x.ticket
    pub logged : length x.log ≡ x.serving
    -- the value at home stands at the log, and the slot is out only while a ticket is served
    pub stands : x.out ≡ false → StandsAt start allowance x.log x.kept
    pub busy : x.out ≡ true → x.serving < x.ticket
    -- each ticket that is served or waits is held by one seat
    pub queue : (k : ℕ) → x.serving ≤ k → k < x.ticket → HoldsTicket s.views (x.owner k) k
    -- what is left and what was drawn is the allowance
    pub sum : sum_by left_of s.views + x.ticket ≡ allowance
    pub spent : (id : ℕ) (v : Known S E) → get_elem? s.views id ≡ some v → v.live ≡ false → v.left ≡ 0
    -- every number up to the last has a seat or was joined, and no greater number made a call
    pub alive : sum_by live_of s.views + x.gone ≡ x.last + 1
    pub fresh : (n : ℕ) → x.last < n → calls_by n x.log ≡ []
    -- some pass has seen the whole log, and what each knows is true
    pub known : SomeHasSeen s.views x.serving
    pub each : (id : ℕ) (v : Known S E) → get_elem? s.views id ≡ some v → v.live ≡ true → IsTrueOf start allowance x id v
