-- What a decision service keeps: open requests by their names, and allowed questions that may still
-- be told, by their lines.
use Rattle.std.specs.Prelude.{◌≡◌, ℕ, ◌+◌, ◌≤◌, ◌==◌, Bool, List, Option, Some, None, if◌then◌else◌}
use Rattle.std.specs.BTreeMap.{btree_map_len, get}
use Rattle.std.specs.Cmp.Lexicographic.{slice_cmp}
use Rattle.std.specs.List.{list_any}
use Rattle.std.specs.Ordering.{nat_cmp}
use Rattle.std.specs.Str.{bytes_eq}
use Rattle.ba_comply.specs.declared.trace.TraceEntry.{TraceEntry}
use Rattle.ba_live.specs.Askers.{with_front}
use Rattle.ba_live.specs.Limits.{most_open_asks}
use Rattle.ba_live.specs.declared.books.Questions.{Questions}
use Rattle.ba_live.specs.declared.books.Requests.{Requests}
use Rattle.ba_live.specs.declared.live.Live.{Live}
use Rattle.ba_live.specs.declared.open.Asked.{Asked}
use Rattle.ba_live.specs.declared.open.Open.{Open}

-- ---- requests

abbrev pub open_in : Requests → List ℕ → Option Open
open_in it name = get (slice_cmp nat_cmp) it.by_name name

abbrev pub many_open : Requests → ℕ
many_open it = btree_map_len it.by_name

-- under this name this is open now, and under the others what was
pub record Opens (name : List ℕ) (now : Option Open) (old new : Requests) : Type 0 where
  pub each : (other : List ℕ) →
      open_in new other ≡ (if bytes_eq name other then now else open_in old other)

-- what is open stays
pub record LeavesOpen (old new : Requests) : Type 0 where
  pub each : (name : List ℕ) → open_in new name ≡ open_in old name

-- what is open under the name may ask so many questions more
pub record MayAsk (count : ℕ) (name : List ℕ) (it : Requests) : Type 0 where
  pub each : (asker : Open) → open_in it name ≡ Some asker → asker.asks + count ≤ most_open_asks

-- a front of the entries joined the request's trace
pub record HasFront (entries : List TraceEntry) (name : List ℕ) (asker : Open) (old new : Requests)
    : Type 0 where
  pub count : ℕ
  pub opens : Opens name (Some (with_front count entries asker)) old new

-- ---- questions

abbrev pub asked_in : Questions → ℕ → Option Asked
asked_in it line = get nat_cmp it.by_line line

-- of this line this may be told now, and of the others what might
pub record Expects (line : ℕ) (now : Option Asked) (old new : Questions) : Type 0 where
  pub each : (other : ℕ) →
      asked_in new other ≡ (if line == other then now else asked_in old other)

-- what may be told stays
pub record LeavesAsked (old new : Questions) : Type 0 where
  pub each : (line : ℕ) → asked_in new line ≡ asked_in old line

-- one of the lines is this one
abbrev pub is_among : List ℕ → ℕ → Bool
is_among lines line = list_any (λ other. other == line) lines

-- of these lines nothing may be told now, and of the others what might
pub record ForgetsAll (lines : List ℕ) (old new : Questions) : Type 0 where
  pub each : (line : ℕ) →
      asked_in new line ≡ (if is_among lines line then None else asked_in old line)

-- ---- both

-- what is open under the name
abbrev pub open_at : Live → List ℕ → Option Open
open_at it name = open_in it.requests name

-- the question of the line that may still be told
abbrev pub asked_at : Live → ℕ → Option Asked
asked_at it line = asked_in it.questions line

-- nothing that is kept of requests changes
pub record LeavesAll (old new : Live) : Type 0 where
  pub requests : LeavesOpen old.requests new.requests
  pub questions : LeavesAsked old.questions new.questions

-- none of the request's questions may be told, and of the others what might
abbrev pub unless_of : List ℕ → Option Asked → Option Asked
unless_of name None = None
unless_of name (Some it) = if bytes_eq name it.name then None else Some it

pub record Forgets (name : List ℕ) (old new : Questions) : Type 0 where
  pub each : (line : ℕ) → asked_in new line ≡ unless_of name (asked_in old line)
