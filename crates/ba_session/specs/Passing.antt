-- The passes of a thread on what requests share, and the calls that it makes with them.
use mathlib.Core.List.{IsPrefix}
use Rattle.std.specs.Prelude.{◌≡◌, ℕ, ◌+◌, ◌<◌, ◌≤◌, ◌==◌, ◌^◌, List, [], ◌++◌, if◌then◌else◌, length, map}
use Rattle.ba_cache.specs.Passes as cache
use Rattle.ba_cache.specs.Passes.{ShelfKnown, known_on}
use Rattle.ba_cache.specs.declared.call.ShelfCall.{ShelfCall}
use Rattle.ba_model.specs.Limits.{shard_count}
use Rattle.ba_model.specs.declared.query.Query.{Query}
use Rattle.ba_template.specs.Shapes.{shape_of, shard_of}
use Rattle.ba_turn.specs.History.{AreDistinct, HasCalls, calls_by, entry_of, number_of}
use Rattle.ba_turn.specs.Knowing.{HasAllCalls, SumsToAllowance, after_join, after_split, numbers_of, opening_known, split_known}
use Rattle.ba_turn.specs.Passes.{IsFree, allowance_of, known_by, start_of}
use Rattle.ba_turn.specs.declared.known.Known.{Known}
use Rattle.ba_versions.specs.Calls.{Legal}
use Rattle.ba_versions.specs.Reads as versions
use Rattle.ba_versions.specs.declared.call.VersionCall.{VersionCall}
use Rattle.ba_versions.specs.declared.versions.Versions.{Versions}
use Rattle.ba_session.specs.declared.service.Closed.{Closed}
use Rattle.ba_session.specs.declared.service.Passes.{Passes}
use Rattle.ba_session.specs.declared.service.Service.{Service}

-- ---- passes

-- what a pass on the versions knows
abbrev pub VersionKnown : Type 0
VersionKnown = Known Versions VersionCall

-- the passes are those of this service, and hold no ticket
pub record AreOf (service : Service) (p : Passes) : Type 0 where
  pub versions : IsFree service.versions p.versions
  pub shelves : cache.AreFree service.cache p.cache

-- so many calls are left on each shelf
pub record HasRoom (calls : ℕ) (p : Passes) : Type 0 where
  pub each : (k : ℕ) → k < shard_count → calls ≤ (known_on p.cache k).left

-- ---- calls

-- The calls take what a pass knows from v to w: it has seen what it had seen and more, and of its
-- number there are just these calls more.
pub record MakesCalls {S E : Type 0} (v w : Known S E) (calls : List E) : Type 0 where
  pub seen : IsPrefix v.seen w.seen
  pub made : w.made ≡ v.made ++ calls
  pub left : w.left + length calls ≡ v.left
  pub number : w.number ≡ v.number
  pub splits : w.splits ≡ v.splits
  pub joined : w.joined ≡ v.joined
  pub start : w.start ≡ v.start
  pub allowance : w.allowance ≡ v.allowance

-- calls on the shelf of a shard
pub record ShelfCalls : Type 0 where
  pub shard : ℕ
  pub calls : List ShelfCall

-- those of them that are made on the shelf k
abbrev pub calls_on : ℕ → ShelfCalls → List ShelfCall
calls_on k made = if made.shard == k then made.calls else []

-- on the shelf of the question's shard
abbrev pub on_shelf : Query → List ShelfCall → ShelfCalls
on_shelf query calls = record { shard = shard_of (shape_of [] query); calls = calls }

-- no call is made on the versions
abbrev pub LeavesVersions : Passes → Passes → Type 0
LeavesVersions old new = known_by new.versions ≡ known_by old.versions

-- these calls and no others take what the passes know from old to new
pub record Makes (made : ShelfCalls) (old new : Passes) : Type 0 where
  pub versions : LeavesVersions old new
  pub shelves : (k : ℕ) → k < shard_count →
      MakesCalls (known_on old.cache k) (known_on new.cache k) (calls_on k made)

-- no call is made on a shelf
pub record LeavesShelves (old new : Passes) : Type 0 where
  pub each : (k : ℕ) → k < shard_count → known_on new.cache k ≡ known_on old.cache k

-- ---- new, split and join

-- of the opening passes of a new service
pub record IsOpened (calls looks : ℕ) (p : Passes) : Type 0 where
  pub start : Versions
  pub versions : known_by p.versions ≡ opening_known start calls
  pub shelves : cache.OnEach (cache.IsOpened looks) p.cache

-- an opening pass, of which a pass with this much of the allowance can be split off
pub record CanBeSplit {S E : Type 0} (allowance : ℕ) (v : Known S E) : Type 0 where
  pub opening : v.number ≡ 0
  pub splits : v.splits + 1 < 2 ^ 32
  pub left : allowance ≤ v.left

-- opening passes, of which passes with this much of the allowances can be split off
pub record CanSplit (calls looks : ℕ) (p : Passes) : Type 0 where
  pub versions : CanBeSplit calls (known_by p.versions)
  pub shelves : cache.OnEach (cache.CanSplit looks) p.cache

-- of the passes and of what was split off them
pub record AreSplit (calls looks : ℕ) (old new other : Passes) : Type 0 where
  pub versions : known_by new.versions ≡ after_split calls (known_by old.versions)
  pub split_off : known_by other.versions ≡ split_known calls (known_by old.versions)
  pub shelves : cache.AreSplit looks old.cache new.cache other.cache

pub record AreOpening (p : Passes) : Type 0 where
  pub versions : (known_by p.versions).number ≡ 0
  pub shelves : cache.OnEach cache.IsOpening p.cache

-- of the old passes once the others were joined into them
pub record AreJoined (old other new : Passes) : Type 0 where
  pub versions : known_by new.versions ≡
      after_join (known_by old.versions) (known_by other.versions)
  pub sums : SumsToAllowance (known_by new.versions)
  pub shelves : cache.AreJoined old.cache other.cache new.cache

-- ---- close

-- all calls were made, or what is left of the allowances has come back
pub record AreWhole (service : Service) (p : Passes) : Type 0 where
  pub versions : (known_by p.versions).left + length (known_by p.versions).seen ≡
      allowance_of service.versions
  pub shelves : cache.OnEach cache.IsWhole p.cache

-- What becomes of a history whose last pass knew this, begun at the opening tables: it is legal,
-- has the calls of the numbers that were joined into this pass, and all calls where these are all
-- that were split off.
pub record AreClosed (service : Service) (p : Passes) (closed : Closed) : Type 0 where
  pub opening : versions.opening_of closed.versions ≡
      versions.opening_of (start_of service.versions)
  pub history : versions.calls_of closed.versions ≡ map entry_of (known_by p.versions).seen
  pub numbers : closed.numbers.items ≡ map number_of (known_by p.versions).seen
  pub legal : ∥ Legal (versions.opening_of closed.versions) (versions.calls_of closed.versions)
      (versions.versions_of closed.versions) ∥₁
  pub own : calls_by (known_by p.versions).number (known_by p.versions).seen ≡
      (known_by p.versions).made
  pub joined : HasCalls (known_by p.versions).seen (known_by p.versions).joined
  pub distinct : AreDistinct (numbers_of (known_by p.versions))
  pub whole : HasAllCalls (known_by p.versions)
  pub shelves : cache.AreClosed p.cache closed.shelves.items
