-- A pass on the turn of each shelf of a cache, and what becomes of all eight.
use mathlib.Core.List.{IsPrefix}
use Rattle.std.specs.Prelude.{◌≡◌, ◌≢◌, ℕ, ◌+◌, ◌<◌, ◌≤◌, ◌^◌, List, map, length, slice_index_or, Vec}
use Rattle.std.specs.declared.alloc.Global.{Global}
use Rattle.ba_model.specs.Limits.{shard_count}
use Rattle.ba_turn.specs.History.{AreDistinct, HasCalls, calls_by, entry_of, number_of}
use Rattle.ba_turn.specs.Knowing.{HasAllCalls, SumsToAllowance, after_join, after_split, numbers_of, opening_known, spent_known, split_known}
use Rattle.ba_turn.specs.Passes.{IsFree, MakesCall, known_by}
use Rattle.ba_turn.specs.declared.known.Known.{Known}
use Rattle.ba_turn.specs.declared.pass.Pass.{Pass}
use Rattle.ba_turn.specs.declared.turn.Turn.{Turn}
use Rattle.ba_cache.specs.Reads.{calls_of, rows_of}
use Rattle.ba_cache.specs.Rows.{Legal, Row}
use Rattle.ba_cache.specs.declared.cache.Cache.{Cache}
use Rattle.ba_cache.specs.declared.cache.CachePass.{CachePass}
use Rattle.ba_cache.specs.declared.call.ShelfCall.{ShelfCall}
use Rattle.ba_cache.specs.declared.shelf.Shelf.{Shelf}

abbrev pub ShelfTurn : Type 0
ShelfTurn = Turn Shelf (Unit {0}) ShelfCall

abbrev pub ShelfPass : Type 0
ShelfPass = Pass Shelf ShelfCall

-- what a pass on a shelf knows
abbrev pub ShelfKnown : Type 0
ShelfKnown = Known Shelf ShelfCall

abbrev pub known_in : List ShelfPass → ℕ → ShelfKnown
known_in passes k = slice_index_or (map known_by passes) k spent_known

-- what the pass on the shelf k knows, below 8
abbrev pub known_on : CachePass → ℕ → ShelfKnown
known_on p k = known_in p.passes.items k

-- so it is of what the pass on each shelf knows
pub record OnEach (P : ShelfKnown → Type 0) (p : CachePass) : Type 0 where
  pub each : (k : ℕ) → k < shard_count → P (known_on p k)

-- each of these passes is one of the turn at its place, and holds no ticket
pub record EachFree (turns : List ShelfTurn) (passes : List ShelfPass) : Type 0 where
  pub each : (k : ℕ) (t : ShelfTurn) (d : ShelfPass) → k < shard_count → IsFree (slice_index_or turns k t) (slice_index_or passes k d)

-- the passes are those of this cache, and hold no ticket
abbrev pub AreFree : Cache → CachePass → Type 0
AreFree c p = EachFree c.turns.items p.passes.items

-- ---- new

-- of the opening pass of a new shelf
pub record IsOpened (allowance : ℕ) (v : ShelfKnown) : Type 0 where
  pub start : Shelf
  pub known : v ≡ opening_known start allowance

-- ---- calls

-- what a pass has seen of a shelf is a legal history
abbrev pub IsLegal : List ShelfCall → Type 0
IsLegal calls = ∥ ((rows : List Row) × Legal calls rows) ∥₁

-- a whole call e of the pass at k, whose history is then legal. What is known of the others stays
pub record CallsIn (k : ℕ) (old new : List ShelfPass) (e : ShelfCall) : Type 0 where
  pub made : MakesCall (known_in old k) (known_in new k) e
  pub legal : IsLegal (map entry_of (known_in new k).seen)
  pub others : (i : ℕ) → i ≢ k → known_in new i ≡ known_in old i

-- a whole call e on the shelf k
abbrev pub CallsOn : ℕ → CachePass → CachePass → ShelfCall → Type 0
CallsOn k old new e = CallsIn k old.passes.items new.passes.items e

-- ---- split

-- an opening pass, of which a pass with this much of the allowance can be split off
pub record CanSplit (allowance : ℕ) (v : ShelfKnown) : Type 0 where
  pub opening : v.number ≡ 0
  pub splits : v.splits + 1 < 2 ^ 32
  pub left : allowance ≤ v.left

-- of v and of what was split off it
pub record IsSplit (allowance : ℕ) (v new other : ShelfKnown) : Type 0 where
  pub known : new ≡ after_split allowance v
  pub other_known : other ≡ split_known allowance v

pub record AreSplit (allowance : ℕ) (old new other : CachePass) : Type 0 where
  pub each : (k : ℕ) → k < shard_count → IsSplit allowance (known_on old k) (known_on new k) (known_on other k)

-- ---- join

abbrev pub IsOpening : ShelfKnown → Type 0
IsOpening v = v.number ≡ 0

-- of v once o was joined into it
pub record IsJoined (v o new : ShelfKnown) : Type 0 where
  pub known : new ≡ after_join v o
  pub seen : IsPrefix v.seen new.seen
  pub other : IsPrefix o.seen new.seen
  pub sums : SumsToAllowance new
  pub distinct : AreDistinct (numbers_of new)
  pub whole : HasAllCalls new

pub record AreJoined (old other new : CachePass) : Type 0 where
  pub each : (k : ℕ) → k < shard_count → IsJoined (known_on old k) (known_on other k) (known_on new k)

-- ---- close

-- all calls of the shelf were made, or what is left of the allowance has come back
abbrev pub IsWhole : ShelfKnown → Type 0
IsWhole v = v.left + length v.seen ≡ v.allowance

-- what becomes of a shelf whose last pass knew this: its calls, with the numbers of those that made them
pub record IsClosed (v : ShelfKnown) (shelf : Shelf) (numbers : List ℕ) : Type 0 where
  pub history : calls_of shelf ≡ map entry_of v.seen
  pub numbers_are : numbers ≡ map number_of v.seen
  pub legal : ∥ Legal (calls_of shelf) (rows_of shelf) ∥₁
  pub own : calls_by v.number v.seen ≡ v.made
  pub joined : HasCalls v.seen v.joined
  pub distinct : AreDistinct (numbers_of v)
  pub whole : HasAllCalls v

-- a shelf with the numbers, as it is given back
abbrev pub ClosedShelf : Type 0
ClosedShelf = Shelf × Vec ℕ Global

pub record AreClosed (p : CachePass) (closed : List ClosedShelf) : Type 0 where
  pub eight : length closed ≡ shard_count
  pub each : (k : ℕ) (c : ClosedShelf) → k < shard_count → IsClosed (known_on p k) (slice_index_or closed k c).0 (slice_index_or closed k c).1.items
